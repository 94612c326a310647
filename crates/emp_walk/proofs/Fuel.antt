-- A search takes units and gives none back, and how deep it may go does not matter where that is at least the units left.
use Rattle.std.proofs.Common.{◌≡◌, ℕ, zero, suc, ◌-◌, ◌≤◌, List, [], ◌∷◌, Option, Some, None, arith, refl, ap, ◌∙◌}
use Rattle.emp_rows.specs.declared.affine.Affine.{Affine}
use Rattle.emp_rows.specs.declared.system.RowSystem.{RowSystem}
use Rattle.emp_rows.specs.RowPoints.{pair}
use Rattle.emp_cert.specs.declared.tree.Node.TheVariants.{Branch}
use Rattle.emp_dict.specs.Dictionary.{Dictionary, exchanged}
use Rattle.emp_step.specs.declared.outcome.Outcome.TheVariants.{Held, Empty, Best, Ray}
use Rattle.emp_step.specs.Steps.{Look, over, turn, End, ended, too_wide, spent, Stepped, with_none, with_more, by_pivot, repeated, raise_look, fix_look, best_look}
use Rattle.emp_search.specs.Search.{Ask, raises, fixes, step_of, on_held, and_then, asked, worked_by, worked, Decision, leaf, branch, finding, decided, State, Searched, closed, found, wide_at, out_of_units, writes, then_second, by_decision, by_end, opened, searched}

-- ---- units
repeated_left : (look : Dictionary → Look) (n : ℕ) (d : Dictionary) → (repeated look n d).left ≤ n
repeated_left look zero d = go (look d)
  where
    go : (l : Look) → (with_none d l).left ≤ 0
    go (over o) = omega arith
    go (turn r j) = omega arith
repeated_left look (suc n) d = go (look d) (λ e. repeated_left look n e)
  where
    by : ((e : Dictionary) → (repeated look n e).left ≤ n) → (o : Option Dictionary) → (by_pivot (repeated look n) n d o).left ≤ suc n
    by h None = omega arith
    by h (Some e) = let k = h e in omega arith

    go : (l : Look) → ((e : Dictionary) → (repeated look n e).left ≤ n) → (with_more (repeated look n) n d l).left ≤ suc n
    go (over o) h = omega arith
    go (turn r j) h = by h (exchanged d r j)

step_left : (a : Ask) (n : ℕ) (d : Dictionary) → (step_of a n d).left ≤ n
step_left (raises k) n d = repeated_left (raise_look k) n d
step_left (fixes k) n d = repeated_left (fix_look k) n d

then_left : (rest : ℕ → Dictionary → Stepped) (w : Stepped) (n : ℕ) → w.left ≤ n → ((m : ℕ) (d : Dictionary) → (rest m d).left ≤ m) → (and_then w rest).left ≤ n
then_left rest w n b h = go w.end
  where
    go : (e : End) → (on_held rest w e).left ≤ n
    go (ended Held) = let k = h w.left w.dictionary in omega arith
    go (ended (Empty r)) = b
    go (ended (Best r)) = b
    go (ended (Ray j up)) = b
    go too_wide = b
    go spent = b

pub asked_left : (as' : List Ask) (n : ℕ) (d : Dictionary) → (asked as' n d).left ≤ n
asked_left [] n d = omega arith
asked_left (a ∷ as') n d = then_left (asked as') (step_of a n d) n (step_left a n d) (λ m e. asked_left as' m e)

pub worked_left : (s : RowSystem) (as' : List Ask) (n : ℕ) (d : Dictionary) → (worked s as' n d).left ≤ n
worked_left s as' n d = go s.objective
  where
    go : (o : Option Affine) → (worked_by o as' n d).left ≤ n
    go None = asked_left as' n d
    go (Some o) = then_left (λ m e. repeated best_look m e) (asked as' n d) n (asked_left as' n d) (λ m e. repeated_left best_look m e)

-- ---- what a node leaves
abbrev Falls : ℕ → Searched → Type 0
Falls n (closed st) = st.left ≤ n
Falls n (found f st) = Unit {0}
Falls n (wide_at k p) = Unit {0}
Falls n out_of_units = Unit {0}

falls_more : (m n : ℕ) (r : Searched) → m ≤ n → Falls m r → Falls n r
falls_more m n (closed st) b h = omega arith
falls_more m n (found f st) b h = tt
falls_more m n (wide_at k p) b h = tt
falls_more m n out_of_units b h = tt

abbrev AllFall : (List Ask → Dictionary → State → Searched) → Type 0
AllFall below = (as' : List Ask) (d : Dictionary) (st : State) → Falls st.left (below as' d st)

decision_falls : (below : List Ask → Dictionary → State → Searched) → AllFall below → (s : RowSystem) (d : Dictionary) (st : State) (x : Decision) → Falls st.left (by_decision below s d st x)
decision_falls below h s d st (leaf n b) = omega arith
decision_falls below h s d st (finding f) = tt
decision_falls below h s d st (branch k) = go (below (fixes (pair s k).0 ∷ []) d (writes (Branch k) st.best st)) (h (fixes (pair s k).0 ∷ []) d (writes (Branch k) st.best st))
  where
    go : (r : Searched) → Falls st.left r → Falls st.left (then_second below s k d r)
    go (closed one) f = falls_more one.left st.left (below (fixes (pair s k).1 ∷ []) d one) f (h (fixes (pair s k).1 ∷ []) d one)
    go (found x one) f = tt
    go (wide_at n p) f = tt
    go out_of_units f = tt

searched_falls : (s : RowSystem) (limit most : ℕ) → AllFall (searched s limit most)
searched_falls s limit zero as' d st = tt
searched_falls s limit (suc most) as' d st = by st.left (λ bs e x. searched_falls s limit most bs e x)
  where
    ends : (left : ℕ) → AllFall (searched s limit most) → (e : End) → Falls (suc left) (by_end (searched s limit most) s limit st (worked s as' left d) e)
    ends left h (ended o) =
        let w = worked s as' left d in
        let b : (worked s as' left d).left ≤ left = worked_left s as' left d in
        let next : State = record { written = st.written; best = st.best; left = w.left; nodes = suc st.nodes } in
        falls_more w.left (suc left) (by_decision (searched s limit most) s w.dictionary next (decided s st.best w.dictionary o)) (omega arith) (decision_falls (searched s limit most) h s w.dictionary next (decided s st.best w.dictionary o))
    ends left h too_wide = tt
    ends left h spent = tt

    by : (left : ℕ) → AllFall (searched s limit most) → Falls left (opened (searched s limit most) s limit as' d st left)
    by zero h = tt
    by (suc left) h = ends left h (worked s as' left d).end

-- ---- how deep it may go
abbrev SameTo : ℕ → (List Ask → Dictionary → State → Searched) → (List Ask → Dictionary → State → Searched) → Type 0
SameTo n f g = (as' : List Ask) (d : Dictionary) (st : State) → st.left ≤ n → f as' d st ≡ g as' d st

same_decision : (n : ℕ) (f g : List Ask → Dictionary → State → Searched) → AllFall f → SameTo n f g → (s : RowSystem) (d : Dictionary) (st : State) → st.left ≤ n → (x : Decision) → by_decision f s d st x ≡ by_decision g s d st x
same_decision n f g h same s d st b (leaf x c) = refl
same_decision n f g h same s d st b (finding x) = refl
same_decision n f g h same s d st b (branch k) = go (f (fixes (pair s k).0 ∷ []) d one) (h (fixes (pair s k).0 ∷ []) d one) ∙ ap (then_second g s k d) (same (fixes (pair s k).0 ∷ []) d one b)
  where
    one : State
    one = writes (Branch k) st.best st

    go : (r : Searched) → Falls st.left r → then_second f s k d r ≡ then_second g s k d r
    go (closed two) q = same (fixes (pair s k).1 ∷ []) d two (omega arith)
    go (found x two) q = refl
    go (wide_at m p) q = refl
    go out_of_units q = refl

-- one node deep, where what is below is the same
same_opened : (n : ℕ) (f g : List Ask → Dictionary → State → Searched) → AllFall f → SameTo n f g → (s : RowSystem) (limit : ℕ) (as' : List Ask) (d : Dictionary) (st : State) (left : ℕ) → left ≤ suc n → opened f s limit as' d st left ≡ opened g s limit as' d st left
same_opened n f g h same s limit as' d st zero b = refl
same_opened n f g h same s limit as' d st (suc left) b = go (worked s as' left d).end
  where
    go : (e : End) → by_end f s limit st (worked s as' left d) e ≡ by_end g s limit st (worked s as' left d) e
    go (ended o) =
        let w = worked s as' left d in
        let k : (worked s as' left d).left ≤ left = worked_left s as' left d in
        same_decision n f g h same s w.dictionary (record { written = st.written; best = st.best; left = w.left; nodes = suc st.nodes }) (omega arith) (decided s st.best w.dictionary o)
    go too_wide = refl
    go spent = refl

pub enough : (s : RowSystem) (limit m n : ℕ) → (as' : List Ask) (d : Dictionary) (st : State) → st.left ≤ m → st.left ≤ n → searched s limit m as' d st ≡ searched s limit n as' d st
enough s limit zero zero as' d st a b = refl
enough s limit zero (suc n) as' d st a b = let e : 0 ≡ st.left = omega arith in ap (opened (searched s limit n) s limit as' d st) e
enough s limit (suc m) zero as' d st a b = let e : st.left ≡ 0 = omega arith in ap (opened (searched s limit m) s limit as' d st) e
enough s limit (suc m) (suc n) as' d st a b = same_opened (st.left - 1) (searched s limit m) (searched s limit n) (searched_falls s limit m) (λ bs e x h. enough s limit m n bs e x (omega arith) (omega arith)) s limit as' d st st.left (omega arith)

-- a node is opened, and what is below it is the same search
pub opens : (s : RowSystem) (limit most : ℕ) (as' : List Ask) (d : Dictionary) (st : State) → st.left ≤ most → searched s limit most as' d st ≡ opened (searched s limit most) s limit as' d st st.left
opens s limit zero as' d st b = let e : 0 ≡ st.left = omega arith in ap (opened (searched s limit zero) s limit as' d st) e
opens s limit (suc m) as' d st b = same_opened (st.left - 1) (searched s limit m) (searched s limit (suc m)) (searched_falls s limit m) (λ bs e x h. enough s limit m (suc m) bs e x (omega arith) (omega arith)) s limit as' d st st.left (omega arith)
