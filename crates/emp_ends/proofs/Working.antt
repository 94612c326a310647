-- How many units the work of a node takes.
use Rattle.std.proofs.Common.{◌≡◌, ◌≢◌, ℕ, zero, suc, ◌+◌, ◌-◌, ◌^◌, ◌<◌, ◌≤◌, List, [], ◌∷◌, length, get_or, set, Option, Some, None, arith, refl, sym, ap, ap₂, subst, ◌∙◌}
use Rattle.std.proofs.lemmas.List.{length-set, get_or-set_other}
use Rattle.emp_rows.specs.declared.affine.Affine.{Affine}
use Rattle.emp_rows.specs.declared.system.Kind.{Kind}
use Rattle.emp_rows.specs.declared.system.Kind.TheVariants.{Zero, Nonneg}
use Rattle.emp_rows.specs.declared.system.RowSystem.{RowSystem}
use Rattle.emp_cert.specs.declared.tree.Turn.{Turn}
use Rattle.emp_dict.specs.declared.label.Mark.{Mark}
use Rattle.emp_dict.specs.declared.label.Mark.TheVariants.{Unasked, Required, Fixed}
use Rattle.emp_dict.specs.Dictionary.{Dictionary, IsSound, mark_at}
use Rattle.emp_step.specs.declared.outcome.Outcome.TheVariants.{Held, Empty, Best, Ray}
use Rattle.emp_step.specs.Steps.{End, ended, too_wide, spent, Stepped, mark_by, raised, fixed, bested}
use Rattle.emp_step.specs.Levels.{IsLevel}
use Rattle.emp_step.specs.Laws.{IsNumber, LeavesLevel, Keeps, column_sets, TakesFew}
use Rattle.emp_step.proofs.Whole.{raise_level, fix_level, steps_mark, raise_keeps_all, fix_keeps_all, raise_few, fix_few, best_few}
use Rattle.emp_decide.specs.Laws.{started_of}
use Rattle.emp_decide.proofs.Decides.{has_objective}
use Rattle.emp_search.specs.Search.{Ask, fixes, step_of, ask_of, asks_from, on_held, and_then, asked, worked_by, worked}
use Rattle.emp_search.specs.Nodes.{IsNode}
use Rattle.emp_search.proofs.Working.{AllDone, AskedAs}
use Rattle.emp_search.proofs.Rooted.{start_node, unasked_at}
use Rattle.emp_ends.specs.Ends.{step_units}
use Rattle.emp_ends.proofs.Sums.{times}

-- ---- so many units at most
pub record Few (u n : ℕ) (w : Stepped) : Type 0 where
  pub left : w.left ≤ n
  pub few : n ≤ w.left + u
  pub ends : u ≤ n → w.end ≢ spent

few_more : (u v n : ℕ) (w : Stepped) → u ≤ v → Few u n w → Few v n w
few_more u v n w b f = record { left = f.left; few = let h = f.few in omega arith; ends = λ a. f.ends (omega arith) }

few_then : (u v n : ℕ) (rest : ℕ → Dictionary → Stepped) (w : Stepped) → Few u n w → (w.end ≡ ended Held → Few v w.left (rest w.left w.dictionary)) → Few (u + v) n (and_then w rest)
few_then u v n rest w f held = go w.end refl
  where
    go : (e : End) → w.end ≡ e → Few (u + v) n (on_held rest w e)
    go (ended Held) q =
        let h = held q in
        let a = f.left in
        let b = f.few in
        record { left = let c = h.left in omega arith; few = let c = h.few in omega arith; ends = λ x. h.ends (omega arith) }
    go (ended (Empty r)) q = few_more u (u + v) n w (omega arith) f
    go (ended (Best r)) q = few_more u (u + v) n w (omega arith) f
    go (ended (Ray j up)) q = few_more u (u + v) n w (omega arith) f
    go too_wide q = few_more u (u + v) n w (omega arith) f
    go spent q = few_more u (u + v) n w (omega arith) f

few_none : (n : ℕ) (d : Dictionary) → Few 0 n (asked [] n d)
few_none n d = record { left = omega arith; few = omega arith; ends = λ a e. absurd (cc) }

-- ---- a step, from a dictionary of the system's size
pub record IsReady (s : RowSystem) (d : Dictionary) : Type 0 where
  pub sound : IsSound d
  pub level : IsLevel d
  pub columns : length d.columns ≡ s.base
  pub marks : length d.marks ≡ length s.quantities

pub ready_of : (s : RowSystem) (p : List Turn) (d : Dictionary) → IsNode s p d → IsReady s d
ready_of s p d n = record { sound = n.dictionary.sound; level = n.level; columns = n.dictionary.columns; marks = n.dictionary.marks }

step_few : (s : RowSystem) (n : ℕ) (d : Dictionary) (w : Stepped) → IsReady s d → TakesFew n d w → Few (step_units s) n w
step_few s n d w r t =
    let same : column_sets d ≡ step_units s = ap₂ (λ a b. 2 ^ (a + b)) r.columns r.marks in
    record { left = t.left; few = let f = t.few in omega arith; ends = λ a. t.ends (omega arith) }

ready_after : (s : RowSystem) (k : ℕ) (m : Mark) (d : Dictionary) (w : Stepped) → IsReady s d → LeavesLevel w → Keeps d w → w.dictionary.marks ≡ set d.marks (k - 1) m → IsReady s w.dictionary
ready_after s k m d w r l keeps same = record { sound = l.0; level = l.1; columns = keeps.columns ∙ r.columns; marks = ap length same ∙ (length-set d.marks (k - 1) m ∙ r.marks) }

-- ---- the root
abbrev UnaskedFrom : ℕ → Dictionary → Type 0
UnaskedFrom k d = (q : ℕ) → k ≤ q → mark_at d q ≡ Unasked

unasked_after : (k : ℕ) (m : Mark) (d e : Dictionary) → 0 < k → e.marks ≡ set d.marks (k - 1) m → UnaskedFrom k d → UnaskedFrom (k + 1) e
unasked_after k m d e above same u q b = ap (λ ms. get_or ms (q - 1) Unasked) same ∙ (get_or-set_other d.marks (k - 1) (q - 1) m Unasked (λ z. absurd (omega arith)) ∙ u q (omega arith))

pub root_few : (s : RowSystem) (ts : List Kind) (k n : ℕ) (d : Dictionary) → IsReady s d → 0 < k → (k - 1) + length ts ≤ length s.quantities → UnaskedFrom k d → Few (times (length ts) (step_units s)) n (asked (asks_from k ts) n d)
root_few s [] k n d r above within u = few_none n d
root_few s (t ∷ ts) k n d r above within u = go t (λ m e ready free. root_few s ts (k + 1) m e ready (omega arith) (omega arith) free)
  where
    number : IsNumber d k
    number = (above, let m = r.marks in omega arith)

    unasked : mark_at d k ≡ Unasked
    unasked = u k (omega arith)

    go : (v : Kind) → ((m : ℕ) (e : Dictionary) → IsReady s e → UnaskedFrom (k + 1) e → Few (times (length ts) (step_units s)) m (asked (asks_from (k + 1) ts) m e)) → Few (step_units s + times (length ts) (step_units s)) n (and_then (step_of (ask_of k v) n d) (asked (asks_from (k + 1) ts)))
    go Zero more =
        few_then (step_units s) (times (length ts) (step_units s)) n (asked (asks_from (k + 1) ts)) (fixed n k d) (step_few s n d (fixed n k d) r (fix_few n k d r.sound r.level)) (λ q.
        let same : (fixed n k d).dictionary.marks ≡ set d.marks (k - 1) Fixed = steps_mark.fix n k d ∙ ap (λ x. (mark_by x k Fixed d).marks) q in
        more (fixed n k d).left (fixed n k d).dictionary (ready_after s k Fixed d (fixed n k d) r (fix_level n k d r.sound r.level number (λ z. let y : Unasked ≡ Fixed = sym unasked ∙ z in absurd (cc))) (fix_keeps_all n k d r.sound r.level) same) (unasked_after k Fixed d (fixed n k d).dictionary above same u))
    go Nonneg more =
        few_then (step_units s) (times (length ts) (step_units s)) n (asked (asks_from (k + 1) ts)) (raised n k d) (step_few s n d (raised n k d) r (raise_few n k d r.sound r.level)) (λ q.
        let same : (raised n k d).dictionary.marks ≡ set d.marks (k - 1) Required = steps_mark.raise n k d ∙ ap (λ x. (mark_by x k Required d).marks) q in
        more (raised n k d).left (raised n k d).dictionary (ready_after s k Required d (raised n k d) r (raise_level n k d r.sound r.level number unasked) (raise_keeps_all n k d r.sound r.level) same) (unasked_after k Required d (raised n k d).dictionary above same u))

-- as many units as all quantities may take
abbrev pub asks_units : RowSystem → ℕ
asks_units s = times (length s.quantities) (step_units s)

pub start_few : (s : RowSystem) (n : ℕ) → Few (asks_units s) n (asked (asks_from 1 s.kinds) n (started_of s))
start_few s n =
    let o = s.sound.one_kind_each in
    subst (λ c. Few (times c (step_units s)) n (asked (asks_from 1 s.kinds) n (started_of s))) o (root_few s s.kinds 1 n (started_of s) (ready_of s [] (started_of s) (start_node s)) (omega arith) (omega arith) (λ q b. unasked_at (length s.quantities) (q - 1)))

-- ---- a child
times_one : (n u : ℕ) → 0 < n → u ≤ times n u
times_one zero u h = absurd (omega arith)
times_one (suc n) u h = omega arith

pub child_few : (s : RowSystem) (p : List Turn) (k n : ℕ) (d : Dictionary) → IsNode s p d → (0 < k) × (k ≤ length s.quantities) → Few (asks_units s) n (asked (fixes k ∷ []) n d)
child_few s p k n d node b =
    let r = ready_of s p d node in
    let f = few_then (step_units s) 0 n (asked []) (fixed n k d) (step_few s n d (fixed n k d) r (fix_few n k d r.sound r.level)) (λ q. few_none (fixed n k d).left (fixed n k d).dictionary) in
    few_more (step_units s + 0) (asks_units s) n (asked (fixes k ∷ []) n d) (let t = times_one (length s.quantities) (step_units s) (let a = b.0 in let c = b.1 in omega arith) in omega arith) f

-- ---- the objective
pub work_few : (s : RowSystem) (p : List Turn) (as' : List Ask) (n : ℕ) (d : Dictionary) → AskedAs s p (AllDone s p) (asked as' n d).dictionary (asked as' n d).end → Few (asks_units s) n (asked as' n d) → Few (asks_units s + step_units s) n (worked s as' n d)
work_few s p as' n d a f = go s.objective refl
  where
    best : (o : Affine) → s.objective ≡ Some o → (w : Stepped) → IsNode s p w.dictionary → Few (step_units s) w.left (bested w.left w.dictionary)
    best o e w node = step_few s w.left w.dictionary (bested w.left w.dictionary) (ready_of s p w.dictionary node) (best_few w.left w.dictionary node.dictionary.sound node.level (has_objective s w.dictionary o node.dictionary e))

    go : (x : Option Affine) → s.objective ≡ x → Few (asks_units s + step_units s) n (worked_by x as' n d)
    go None e = few_more (asks_units s) (asks_units s + step_units s) n (asked as' n d) (omega arith) f
    go (Some o) e = few_then (asks_units s) (step_units s) n bested (asked as' n d) f (λ q. let h : AskedAs s p (AllDone s p) (asked as' n d).dictionary (ended Held) = subst (AskedAs s p (AllDone s p) (asked as' n d).dictionary) q a in best o e (asked as' n d) h.0)
