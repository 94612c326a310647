-- The work of a node keeps its dictionary a node's, and where it holds everything is asked.
use Rattle.std.proofs.Common.{◌≡◌, ◌≢◌, ℕ, ◌+◌, ◌-◌, ◌<◌, ◌≤◌, ◌⊎◌, inl, inr, pos, ◌<ℤ◌, Bool, true, false, ◌||◌, nat_eq, List, [], ◌∷◌, length, get_or, set, drop, Option, Some, None, arith, refl, sym, ap, subst, ◌∙◌}
use Rattle.std.proofs.lemmas.List.{length-set, get_or-set_same, get_or-set_other, get_or_default, drop_more, get_or_past}
use Rattle.std.proofs.lemmas.Bool.{cases_eq, cases_lt, eq-eqb}
use Rattle.emp_algebra.specs.Deciding.{Zero as to_be_zero}
use Rattle.emp_rows.specs.declared.affine.Affine.{Affine}
use Rattle.emp_rows.specs.declared.system.Kind.{Kind}
use Rattle.emp_rows.specs.declared.system.Kind.TheVariants.{Zero, Nonneg}
use Rattle.emp_rows.specs.declared.system.RowSystem.{RowSystem}
use Rattle.emp_rows.specs.RowPoints.{sort_of}
use Rattle.emp_cert.specs.declared.tree.Turn.{Turn}
use Rattle.emp_cert.specs.Paths.{member, is_on}
use Rattle.emp_cert.specs.Deciders.{sort_on}
use Rattle.emp_dict.specs.declared.label.Mark.{Mark}
use Rattle.emp_dict.specs.declared.label.Mark.TheVariants.{Unasked, Required, Fixed}
use Rattle.emp_dict.specs.declared.label.Aim.TheVariants.{Up, Down, Least}
use Rattle.emp_dict.specs.declared.label.Choice.TheVariants.{Stop, Ray as RayChoice}
use Rattle.emp_dict.specs.Dictionary.{Dictionary, IsSound, mark_at, line_at}
use Rattle.emp_dict.specs.Chosen.{chosen}
use Rattle.emp_step.specs.declared.outcome.Outcome.TheVariants.{Held, Empty, Best, Ray}
use Rattle.emp_step.specs.Steps.{End, ended, too_wide, spent, Stepped, mark_by, raised, fixed, bested}
use Rattle.emp_step.specs.Laws.{IsNumber, LeavesLevel, Keeps}
use Rattle.emp_step.proofs.Whole.{raise_level, fix_level, best_level, steps_mark, raise_keeps_all, fix_keeps_all, best_keeps_all}
use Rattle.emp_decide.specs.Laws.{IsDictionaryOf, IsToBeZero, IsRefused}
use Rattle.emp_decide.proofs.Decides.{has_objective}
use Rattle.emp_search.specs.Search.{Ask, fixes, ask_of, asks_from, on_held, and_then, asked, worked_by, worked}
use Rattle.emp_search.specs.Nodes.{IsNode, IsAsked, PathFixed, IsSettled}
use Rattle.emp_search.proofs.Outcomes.{Refused, HoldsOr, LeastOr, EndSays, raise_says, fix_says, best_says}

-- ---- marks after a step
pub marks_length : (e : End) (k : ℕ) (m : Mark) (d : Dictionary) → length (mark_by e k m d).marks ≡ length d.marks
marks_length (ended Held) k m d = length-set d.marks (k - 1) m
marks_length (ended (Empty r)) k m d = refl
marks_length (ended (Best r)) k m d = refl
marks_length (ended (Ray j up)) k m d = refl
marks_length too_wide k m d = refl
marks_length spent k m d = refl

-- a quantity's mark is the new one, or the old
mark_is : (d e : Dictionary) (x : End) (k : ℕ) (m : Mark) → e.marks ≡ (mark_by x k m d).marks → IsNumber d k → (q : ℕ) → ((x ≡ ended Held) × (q - 1 ≡ k - 1) × (mark_at e q ≡ m)) ⊎ (mark_at e q ≡ mark_at d q)
mark_is d e (ended Held) k m same b q = go (cases_eq (q - 1) (k - 1))
  where
    at : mark_at e q ≡ get_or (set d.marks (k - 1) m) (q - 1) Unasked
    at = ap (λ ms. get_or ms (q - 1) Unasked) same

    go : (q - 1 ≡ k - 1) ⊎ (q - 1 ≢ k - 1) → ((ended Held ≡ ended Held) × (q - 1 ≡ k - 1) × (mark_at e q ≡ m)) ⊎ (mark_at e q ≡ mark_at d q)
    go (inl z) = let b0 = b.0 in let b1 = b.1 in inl (refl, z, at ∙ (ap (λ i. get_or (set d.marks (k - 1) m) i Unasked) z ∙ get_or-set_same d.marks (k - 1) m Unasked (omega arith)))
    go (inr n) = inr (at ∙ get_or-set_other d.marks (k - 1) (q - 1) m Unasked n)
mark_is d e (ended (Empty r)) k m same b q = inr (ap (λ ms. get_or ms (q - 1) Unasked) same)
mark_is d e (ended (Best r)) k m same b q = inr (ap (λ ms. get_or ms (q - 1) Unasked) same)
mark_is d e (ended (Ray j up)) k m same b q = inr (ap (λ ms. get_or ms (q - 1) Unasked) same)
mark_is d e too_wide k m same b q = inr (ap (λ ms. get_or ms (q - 1) Unasked) same)
mark_is d e spent k m same b q = inr (ap (λ ms. get_or ms (q - 1) Unasked) same)

-- ---- a step on quantity k, from a node
still_of : (s : RowSystem) (d : Dictionary) (w : Stepped) → IsDictionaryOf s d → IsSound w.dictionary → Keeps d w → length w.dictionary.marks ≡ length d.marks → IsDictionaryOf s w.dictionary
still_of s d w t sound k m = record {
  sound = sound;
  rows = k.rows ∙ t.rows;
  columns = k.columns ∙ t.columns;
  marks = m ∙ t.marks;
  solutions = λ c f. (λ h. (k.solutions c f).0 ((t.solutions c f).0 h), λ h. (t.solutions c f).1 ((k.solutions c f).1 h));
}

record StepKeeps (down : Type 0) (d : Dictionary) (k : ℕ) (m : Mark) (w : Stepped) : Type 0 where
  pub level : LeavesLevel w
  pub keeps : Keeps d w
  pub marks : w.dictionary.marks ≡ (mark_by w.end k m d).marks
  pub says : EndSays (HoldsOr down w.dictionary k) w.end

step_node : (down : Type 0) (s : RowSystem) (p : List Turn) (d : Dictionary) (k : ℕ) (m : Mark) (w : Stepped) → IsNode s p d → IsNumber d k → (m ≡ Fixed → IsToBeZero s p k) → StepKeeps down d k m w → IsNode s p w.dictionary
step_node down s p d k m w n b zero_there k' = record {
  dictionary = still_of s d w n.dictionary k'.level.0 k'.keeps (ap length k'.marks ∙ marks_length w.end k m d);
  level = k'.level.1;
  on = λ q a f. go q a f (mark_is d w.dictionary w.end k m k'.marks b q);
}
  where
    go : (q : ℕ) → 0 < q → mark_at w.dictionary q ≡ Fixed → ((w.end ≡ ended Held) × (q - 1 ≡ k - 1) × (mark_at w.dictionary q ≡ m)) ⊎ (mark_at w.dictionary q ≡ mark_at d q) → IsToBeZero s p q
    go q a f (inl h) = let same : q ≡ k = let e = h.1 in let b0 = b.0 in omega arith in subst (IsToBeZero s p) (sym same) (zero_there (sym h.2 ∙ f))
    go q a f (inr h) = n.on q a (sym h ∙ f)

raise_step : (s : RowSystem) (p : List Turn) (d : Dictionary) (k n : ℕ) → IsNode s p d → IsNumber d k → mark_at d k ≡ Unasked → StepKeeps ⊥ d k Required (raised n k d)
raise_step s p d k n h b u = record { level = raise_level n k d h.dictionary.sound h.level b u; keeps = raise_keeps_all n k d h.dictionary.sound h.level; marks = steps_mark.raise n k d; says = raise_says n k d }

fix_step : (s : RowSystem) (p : List Turn) (d : Dictionary) (k n : ℕ) → IsNode s p d → IsNumber d k → mark_at d k ≢ Fixed → StepKeeps (Unit {0}) d k Fixed (fixed n k d)
fix_step s p d k n h b u = record { level = fix_level n k d h.dictionary.sound h.level b u; keeps = fix_keeps_all n k d h.dictionary.sound h.level; marks = steps_mark.fix n k d; says = fix_says n k d }

-- ---- what asking a list comes to
-- the row that refuses, where a step is refused
abbrev pub AskedAs : RowSystem → List Turn → (Dictionary → Type 0) → Dictionary → End → Type 0
AskedAs s p P d (ended Held) = IsNode s p d × P d
AskedAs s p P d (ended (Empty r)) = IsNode s p d × ((k : ℕ) × IsRefused s p d r k)
AskedAs s p P d (ended (Best r)) = ⊥
AskedAs s p P d (ended (Ray j up)) = ⊥
AskedAs s p P d too_wide = Unit {0}
AskedAs s p P d spent = Unit {0}

refused_is : (down : Type 0) (s : RowSystem) (p : List Turn) (d : Dictionary) (k r : ℕ) → (down → IsToBeZero s p k) → Refused down d k r → IsRefused s p d r k
refused_is down s p d k r zero_there x = record { below = x.row.below; label = x.row.label; stops = go x.stops }
  where
    go : (((line_at d r).constant <ℤ pos 0) × (chosen d (Up r) ≡ Stop)) ⊎ ((pos 0 <ℤ (line_at d r).constant) × (chosen d (Down r) ≡ Stop) × down) → (((line_at d r).constant <ℤ pos 0) × (chosen d (Up r) ≡ Stop)) ⊎ ((pos 0 <ℤ (line_at d r).constant) × (chosen d (Down r) ≡ Stop) × IsToBeZero s p k)
    go (inl h) = inl h
    go (inr h) = inr (h.0, h.1, zero_there h.2)

-- ---- one step and then the rest
-- what is so where a step ends, if what holds after it does
step_then : (down : Type 0) (s : RowSystem) (p : List Turn) (d : Dictionary) (k : ℕ) (m : Mark) (P : Dictionary → Type 0) (rest : ℕ → Dictionary → Stepped) (w : Stepped) → IsNode s p d → IsNumber d k → (m ≡ Fixed → IsToBeZero s p k) → (down → IsToBeZero s p k) → StepKeeps down d k m w → (IsNode s p w.dictionary → w.dictionary.marks ≡ set d.marks (k - 1) m → AskedAs s p P (rest w.left w.dictionary).dictionary (rest w.left w.dictionary).end) → AskedAs s p P (and_then w rest).dictionary (and_then w rest).end
step_then down s p d k m P rest w n b fixes_zero down_zero keeps held = go w.end refl keeps.says
  where
    node : IsNode s p w.dictionary
    node = step_node down s p d k m w n b fixes_zero keeps

    go : (e : End) → w.end ≡ e → EndSays (HoldsOr down w.dictionary k) e → AskedAs s p P (on_held rest w e).dictionary (on_held rest w e).end
    go (ended Held) q h = held node (keeps.marks ∙ ap (λ x. (mark_by x k m d).marks) q)
    go (ended (Empty r)) q h = subst (AskedAs s p P w.dictionary) (sym q) (node, (k, refused_is down s p w.dictionary k r down_zero h))
    go (ended (Best r)) q h = absurd h
    go (ended (Ray j up)) q h = absurd h
    go too_wide q h = subst (AskedAs s p P w.dictionary) (sym q) tt
    go spent q h = subst (AskedAs s p P w.dictionary) (sym q) tt

-- ---- the root
-- the quantities before number k were asked, and of those from there on nothing was
pub record Halfway (s : RowSystem) (k : ℕ) (d : Dictionary) : Type 0 where
  pub before : (q : ℕ) → 0 < q → q < k → IsAsked s d q
  pub after : (q : ℕ) → k ≤ q → mark_at d q ≡ Unasked

zero_kind : (s : RowSystem) (k : ℕ) → get_or s.kinds (k - 1) Nonneg ≡ Zero → IsToBeZero s [] k
zero_kind s k e = ap sort_of (default s.kinds (k - 1) e)
  where
    default : (ts : List Kind) (i : ℕ) → get_or ts i Nonneg ≡ Zero → get_or ts i Zero ≡ Zero
    default ts i h = go (cases_lt i (length ts))
      where
        go : (i < length ts) ⊎ (length ts ≤ i) → get_or ts i Zero ≡ Zero
        go (inl b) = get_or_default ts i Zero Nonneg b ∙ h
        go (inr b) = get_or_past ts i Zero b

halfway_next : (s : RowSystem) (k : ℕ) (d e : Dictionary) (m : Mark) → 0 < k → k ≤ length d.marks → e.marks ≡ set d.marks (k - 1) m → m ≢ Unasked → (get_or s.kinds (k - 1) Nonneg ≡ Zero → m ≡ Fixed) → Halfway s k d → Halfway s (k + 1) e
halfway_next s k d e m above within same asked kind h = record { before = λ q a b. before q a b (cases_eq q k); after = λ q b. other q (λ z. absurd (omega arith)) (omega arith) ∙ h.after q (omega arith) }
  where
    here : mark_at e k ≡ m
    here = ap (λ ms. get_or ms (k - 1) Unasked) same ∙ get_or-set_same d.marks (k - 1) m Unasked (omega arith)

    other : (q : ℕ) → q ≢ k → 0 < q → mark_at e q ≡ mark_at d q
    other q n a = ap (λ ms. get_or ms (q - 1) Unasked) same ∙ get_or-set_other d.marks (k - 1) (q - 1) m Unasked (λ z. n (omega arith))

    before : (q : ℕ) → 0 < q → q < k + 1 → (q ≡ k) ⊎ (q ≢ k) → IsAsked s e q
    before q a b (inl z) = record { asked = λ u. asked (sym (ap (mark_at e) z ∙ here) ∙ u); zero_fixed = λ t. ap (mark_at e) z ∙ (here ∙ kind (ap (λ i. get_or s.kinds (i - 1) Nonneg) (sym z) ∙ t)) }
    before q a b (inr n) = let i = h.before q a (omega arith) in record { asked = λ u. i.asked (sym (other q n a) ∙ u); zero_fixed = λ t. other q n a ∙ i.zero_fixed t }

pub root_asks : (s : RowSystem) (ts : List Kind) (k n : ℕ) (d : Dictionary) → 0 < k → drop (k - 1) s.kinds ≡ ts → (k - 1) + length ts ≡ length s.quantities → IsNode s [] d → Halfway s k d → AskedAs s [] (λ e. (q : ℕ) → 0 < q → q ≤ length s.quantities → IsAsked s e q) (asked (asks_from k ts) n d).dictionary (asked (asks_from k ts) n d).end
root_asks s [] k n d above e c node h = (node, λ q a b. h.before q a (omega arith))
root_asks s (t ∷ ts) k n d above e c node h = go t first (λ m f. root_asks s ts (k + 1) m f (omega arith) rest (omega arith))
  where
    below : k - 1 < length s.kinds
    below = let o = s.sound.one_kind_each in omega arith

    cells : get_or s.kinds (k - 1) Zero ∷ drop (k - 1 + 1) s.kinds ≡ t ∷ ts
    cells = sym (drop_more s.kinds (k - 1) Zero below) ∙ e

    first : get_or s.kinds (k - 1) Zero ≡ t
    first = let h = cells in cc

    rest : drop (k + 1 - 1) s.kinds ≡ ts
    rest = let z : k - 1 + 1 ≡ k + 1 - 1 = omega arith in let h = cells in let q : drop (k - 1 + 1) s.kinds ≡ ts = cc in ap (λ i. drop i s.kinds) (sym z) ∙ q

    number : IsNumber d k
    number = (above, let m = node.dictionary.marks in omega arith)

    kind_is : (v : Kind) → get_or s.kinds (k - 1) Zero ≡ v → get_or s.kinds (k - 1) Nonneg ≡ v
    kind_is v q = get_or_default s.kinds (k - 1) Nonneg Zero below ∙ q

    go : (v : Kind) → get_or s.kinds (k - 1) Zero ≡ v → ((m : ℕ) (f : Dictionary) → IsNode s [] f → Halfway s (k + 1) f → AskedAs s [] (λ e. (q : ℕ) → 0 < q → q ≤ length s.quantities → IsAsked s e q) (asked (asks_from (k + 1) ts) m f).dictionary (asked (asks_from (k + 1) ts) m f).end) → AskedAs s [] (λ e. (q : ℕ) → 0 < q → q ≤ length s.quantities → IsAsked s e q) (asked (ask_of k v ∷ asks_from (k + 1) ts) n d).dictionary (asked (ask_of k v ∷ asks_from (k + 1) ts) n d).end
    go Zero q more =
        step_then (Unit {0}) s [] d k Fixed (λ e. (q : ℕ) → 0 < q → q ≤ length s.quantities → IsAsked s e q) (asked (asks_from (k + 1) ts)) (fixed n k d) node number (λ z. zero_kind s k (kind_is Zero q)) (λ u. zero_kind s k (kind_is Zero q)) (fix_step s [] d k n node number (λ z. let u = h.after k (omega arith) in let y : Unasked ≡ Fixed = sym u ∙ z in absurd (cc))) (λ node same. more (fixed n k d).left (fixed n k d).dictionary node (halfway_next s k d (fixed n k d).dictionary Fixed above number.1 same (λ z. absurd (cc)) (λ z. refl) h))
    go Nonneg q more =
        step_then ⊥ s [] d k Required (λ e. (q : ℕ) → 0 < q → q ≤ length s.quantities → IsAsked s e q) (asked (asks_from (k + 1) ts)) (raised n k d) node number (λ z. absurd (cc)) (λ u. absurd u) (raise_step s [] d k n node number (h.after k (omega arith))) (λ node same. more (raised n k d).left (raised n k d).dictionary node (halfway_next s k d (raised n k d).dictionary Required above number.1 same (λ z. absurd (cc)) (λ z. let y : Nonneg ≡ Zero = sym (kind_is Nonneg q) ∙ z in absurd (cc)) h))

-- ---- a child
-- everything asked, and the path Fixed
abbrev pub AllDone : RowSystem → List Turn → Dictionary → Type 0
AllDone s p d = ((q : ℕ) → 0 < q → q ≤ length s.quantities → IsAsked s d q) × PathFixed s p d

settled_of : (s : RowSystem) (p : List Turn) (d : Dictionary) → IsNode s p d → AllDone s p d → IsSettled s p d
settled_of s p d n a = record { node = n; all = a.0; path = a.1 }

sort_wider : (x o : Bool) (t : Kind) → sort_on o t ≡ to_be_zero → sort_on (x || o) t ≡ to_be_zero
sort_wider true o t e = refl
sort_wider false o t e = e

wider : (s : RowSystem) (t : Turn) (p : List Turn) (q : ℕ) → IsToBeZero s p q → IsToBeZero s (t ∷ p) q
wider s t p q e = sort_wider (nat_eq (member s t) q) (is_on s p q) (get_or s.kinds (q - 1) Zero) e

member_zero : (s : RowSystem) (t : Turn) (p : List Turn) → IsToBeZero s (t ∷ p) (member s t)
member_zero s t p = ap (λ b. sort_on (b || is_on s p (member s t)) (get_or s.kinds (member s t - 1) Zero)) (eq-eqb (member s t) (member s t) refl)

path_kept : (s : RowSystem) (p : List Turn) (d e : Dictionary) → ((q : ℕ) → mark_at d q ≡ Fixed → mark_at e q ≡ Fixed) → PathFixed s p d → PathFixed s p e
path_kept s [] d e h f = tt
path_kept s (t ∷ p) d e h f = (h (member s t) f.0, path_kept s p d e h f.1)

child_node : (s : RowSystem) (t : Turn) (p : List Turn) (d : Dictionary) → IsNode s p d → IsNode s (t ∷ p) d
child_node s t p d n = record { dictionary = n.dictionary; level = n.level; on = λ q a f. wider s t p q (n.on q a f) }

child_done : (s : RowSystem) (t : Turn) (p : List Turn) (d e : Dictionary) → IsSettled s p d → IsNumber d (member s t) → e.marks ≡ set d.marks (member s t - 1) Fixed → AllDone s (t ∷ p) e
child_done s t p d e st b same = (all, (here, path_kept s p d e (λ q f. fixed_kept q f (is q)) st.path))
  where
    is : (q : ℕ) → ((ended Held ≡ ended Held) × (q - 1 ≡ member s t - 1) × (mark_at e q ≡ Fixed)) ⊎ (mark_at e q ≡ mark_at d q)
    is q = mark_is d e (ended Held) (member s t) Fixed same b q

    here : mark_at e (member s t) ≡ Fixed
    here = ap (λ ms. get_or ms (member s t - 1) Unasked) same ∙ get_or-set_same d.marks (member s t - 1) Fixed Unasked (let b0 = b.0 in let b1 = b.1 in omega arith)

    fixed_kept : (q : ℕ) → mark_at d q ≡ Fixed → ((ended Held ≡ ended Held) × (q - 1 ≡ member s t - 1) × (mark_at e q ≡ Fixed)) ⊎ (mark_at e q ≡ mark_at d q) → mark_at e q ≡ Fixed
    fixed_kept q f (inl h) = h.2
    fixed_kept q f (inr h) = h ∙ f

    asked_by : (q : ℕ) → IsAsked s d q → ((ended Held ≡ ended Held) × (q - 1 ≡ member s t - 1) × (mark_at e q ≡ Fixed)) ⊎ (mark_at e q ≡ mark_at d q) → IsAsked s e q
    asked_by q i (inl h) = record { asked = λ u. let y : Fixed ≡ Unasked = sym h.2 ∙ u in absurd (cc); zero_fixed = λ z. h.2 }
    asked_by q i (inr h) = record { asked = λ u. i.asked (sym h ∙ u); zero_fixed = λ z. h ∙ i.zero_fixed z }

    all : (q : ℕ) → 0 < q → q ≤ length s.quantities → IsAsked s e q
    all q a l = asked_by q (st.all q a l) (is q)

pub child_asks : (s : RowSystem) (t : Turn) (p : List Turn) (n : ℕ) (d : Dictionary) → IsSettled s p d → IsNumber d (member s t) → mark_at d (member s t) ≢ Fixed → AskedAs s (t ∷ p) (AllDone s (t ∷ p)) (asked (fixes (member s t) ∷ []) n d).dictionary (asked (fixes (member s t) ∷ []) n d).end
child_asks s t p n d st b loose =
    let node : IsNode s (t ∷ p) d = child_node s t p d st.node in
    step_then (Unit {0}) s (t ∷ p) d (member s t) Fixed (AllDone s (t ∷ p)) (asked []) (fixed n (member s t) d) node b (λ z. member_zero s t p) (λ u. member_zero s t p) (fix_step s (t ∷ p) d (member s t) n node b loose) (λ after same. (after, child_done s t p d (fixed n (member s t) d).dictionary st b same))

-- ---- the objective
best_node : (s : RowSystem) (p : List Turn) (o : Affine) (n : ℕ) (d : Dictionary) → s.objective ≡ Some o → IsSettled s p d → IsSettled s p (bested n d).dictionary
best_node s p o n d e st =
    let there = has_objective s d o st.node.dictionary e in
    let level = best_level n d st.node.dictionary.sound st.node.level there in
    let marks : (bested n d).dictionary.marks ≡ d.marks = steps_mark.best n d in
    let mark = λ (q : ℕ). ap (λ ms. get_or ms (q - 1) Unasked) marks in
    record {
      node = record { dictionary = still_of s d (bested n d) st.node.dictionary level.0 (best_keeps_all n d st.node.dictionary.sound st.node.level there) (ap length marks); level = level.1; on = λ q a f. st.node.on q a (sym (mark q) ∙ f) };
      all = λ q a l. let i = st.all q a l in record { asked = λ u. i.asked (sym (mark q) ∙ u); zero_fixed = λ z. mark q ∙ i.zero_fixed z };
      path = path_kept s p d (bested n d).dictionary (λ q f. mark q ∙ f) st.path;
    }

-- ---- the whole work of a node
abbrev pub WorkedAs : RowSystem → List Turn → Dictionary → End → Type 0
WorkedAs s p d (ended Held) = (s.objective ≡ None) × IsSettled s p d
WorkedAs s p d (ended (Empty r)) = IsNode s p d × ((k : ℕ) × IsRefused s p d r k)
WorkedAs s p d (ended (Best r)) = (o : Affine) × (s.objective ≡ Some o) × IsSettled s p d × (r ≡ length d.marks) × (chosen d Least ≡ Stop)
WorkedAs s p d (ended (Ray j up)) = (o : Affine) × (s.objective ≡ Some o) × IsSettled s p d × (chosen d Least ≡ RayChoice j up)
WorkedAs s p d too_wide = Unit {0}
WorkedAs s p d spent = Unit {0}

work_without : (s : RowSystem) (p : List Turn) (d : Dictionary) (e : End) → s.objective ≡ None → AskedAs s p (AllDone s p) d e → WorkedAs s p d e
work_without s p d (ended Held) o a = (o, settled_of s p d a.0 a.1)
work_without s p d (ended (Empty r)) o a = a
work_without s p d (ended (Best r)) o a = absurd a
work_without s p d (ended (Ray j up)) o a = absurd a
work_without s p d too_wide o a = tt
work_without s p d spent o a = tt

best_as : (s : RowSystem) (p : List Turn) (o : Affine) (n : ℕ) (d : Dictionary) → s.objective ≡ Some o → IsSettled s p d → WorkedAs s p (bested n d).dictionary (bested n d).end
best_as s p o n d e st = go (bested n d).end (best_says n d)
  where
    go : (x : End) → EndSays (LeastOr (bested n d).dictionary) x → WorkedAs s p (bested n d).dictionary x
    go (ended Held) h = absurd h
    go (ended (Empty r)) h = absurd h
    go (ended (Best r)) h = (o, e, best_node s p o n d e st, h.0, h.1)
    go (ended (Ray j up)) h = (o, e, best_node s p o n d e st, h)
    go too_wide h = tt
    go spent h = tt

pub work_of : (s : RowSystem) (p : List Turn) (as' : List Ask) (n : ℕ) (d : Dictionary) → AskedAs s p (AllDone s p) (asked as' n d).dictionary (asked as' n d).end → WorkedAs s p (worked s as' n d).dictionary (worked s as' n d).end
work_of s p as' n d a = by s.objective refl
  where
    go : (o : Affine) → s.objective ≡ Some o → (w : Stepped) (e : End) → w.end ≡ e → AskedAs s p (AllDone s p) w.dictionary e → WorkedAs s p (on_held bested w e).dictionary (on_held bested w e).end
    go o q w (ended Held) f h = best_as s p o w.left w.dictionary q (settled_of s p w.dictionary h.0 h.1)
    go o q w (ended (Empty r)) f h = subst (WorkedAs s p w.dictionary) (sym f) h
    go o q w (ended (Best r)) f h = absurd h
    go o q w (ended (Ray j up)) f h = absurd h
    go o q w too_wide f h = subst (WorkedAs s p w.dictionary) (sym f) tt
    go o q w spent f h = subst (WorkedAs s p w.dictionary) (sym f) tt

    by : (x : Option Affine) → s.objective ≡ x → WorkedAs s p (worked_by x as' n d).dictionary (worked_by x as' n d).end
    by None q = work_without s p (asked as' n d).dictionary (asked as' n d).end q a
    by (Some o) q = go o q (asked as' n d) (asked as' n d).end refl a
