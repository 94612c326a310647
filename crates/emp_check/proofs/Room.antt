-- A path splits each pair once, so it is no longer than the list of pairs.
use Rattle.std.proofs.Common.{◌≡◌, ℕ, suc, ◌+◌, ◌<◌, ◌≤◌, Bool, true, false, cond, ◌||◌, nat_eq, eqb, eqb-true, List, [], ◌∷◌, length, map, Some, All, arith, refl, ap, subst}
use Rattle.std.specs.List.{IsDistinct, AllByRecursion, list_any}
use Rattle.std.proofs.lemmas.Bool.{ne_eqb}
use Rattle.std.proofs.lemmas.List.Elements.{All-head, All-tail, All-cons, All-nil}
use Rattle.std.proofs.lemmas.Map.Keys.{IsDistinct-cons}
use Rattle.std.proofs.lemmas.Map.Steps.{length-le_from_distinct_below}
use Rattle.emp_rows.specs.declared.system.RowSystem.{RowSystem}
use Rattle.emp_check.specs.Levels.{Level}
use Rattle.emp_cert.specs.declared.tree.Turn.{Turn}
use Rattle.emp_cert.specs.declared.tree.Node.{Node}
use Rattle.emp_cert.specs.declared.tree.Node.TheVariants.{Branch, Farkas, Bound}
use Rattle.emp_check.specs.declared.outcome.Tested.TheVariants.{Fine, Wrong}
use Rattle.emp_check.specs.declared.outcome.Why.TheVariants.{Split}
use Rattle.emp_rows.specs.Points.{IsNumber}
use Rattle.emp_rows.proofs.Pairs.{few_pairs}
use Rattle.emp_cert.specs.Paths.{turn, is_split}
use Rattle.emp_check.specs.Paths.{IsApart, advance, advance_by}
use Rattle.emp_cert.specs.Certs.{NodeFits}
use Rattle.emp_check.specs.Trees.{node_test, next}
use Rattle.emp_check.specs.Steps.{IsPath, RoomFor}

abbrev pairs_of : List Turn → List ℕ
pairs_of p = map (λ (t : Turn). t.pair) p

abbrev Numbered : ℕ → Turn → Type 0
Numbered n t = IsNumber n t.pair

abbrev Others : ℕ → ℕ → Type 0
Others k y = eqb k y ≡ false

unsplit : (p : List Turn) (k : ℕ) → is_split p k ≡ false → AllByRecursion (λ y. eqb k y ≡ false) (pairs_of p)
unsplit [] k e = tt
unsplit (t ∷ p) k e = go (nat_eq k t.pair) refl e (unsplit p k)
  where
    go : (b : Bool) → nat_eq k t.pair ≡ b → (b || is_split p k) ≡ false → (is_split p k ≡ false → AllByRecursion (λ y. eqb k y ≡ false) (pairs_of p)) → (eqb k t.pair ≡ false) × AllByRecursion (λ y. eqb k y ≡ false) (pairs_of p)
    go true f g ih = cc
    go false f g ih = (f, ih g)

nil_distinct : IsDistinct eqb []
unfolding IsDistinct
nil_distinct = tt

distinct : (p : List Turn) → IsApart p → IsDistinct eqb (pairs_of p)
distinct [] h = nil_distinct
distinct (t ∷ p) h = IsDistinct-cons eqb t.pair (pairs_of p) (unsplit p t.pair h.0) (distinct p h.1)

above_zero : (n : ℕ) (p : List Turn) → All (λ t. IsNumber n t.pair) p → AllByRecursion (λ y. eqb 0 y ≡ false) (pairs_of p)
above_zero n [] h = tt
above_zero n (t ∷ p) h = let f = (All-head (Numbered n) t p h).0 in (ne_eqb 0 t.pair (omega arith), above_zero n p (All-tail (Numbered n) t p h))

below : (n : ℕ) (p : List Turn) (q : ℕ) → All (λ t. IsNumber n t.pair) p → list_any (eqb q) (pairs_of p) ≡ true → q < n + 1
below n [] q h e = cc
below n (t ∷ p) q h e = go (eqb q t.pair) refl e (below n p q (All-tail (Numbered n) t p h))
  where
    go : (b : Bool) → eqb q t.pair ≡ b → (b || list_any (eqb q) (pairs_of p)) ≡ true → (list_any (eqb q) (pairs_of p) ≡ true → q < n + 1) → q < n + 1
    go true f g ih = omega (arith, eqb-true q t.pair f, (All-head (Numbered n) t p h).1)
    go false f g ih = ih g

below_all : (n : ℕ) (p : List Turn) (q : ℕ) → All (λ t. IsNumber n t.pair) p → list_any (eqb q) (0 ∷ pairs_of p) ≡ true → q < n + 1
below_all n p q h e = go (eqb q 0) refl e
  where
    go : (b : Bool) → eqb q 0 ≡ b → (b || list_any (eqb q) (pairs_of p)) ≡ true → q < n + 1
    go true f g = omega (arith, eqb-true q 0 f)
    go false f g = below n p q h g

length_pairs : (p : List Turn) → length (pairs_of p) ≡ length p
length_pairs [] = refl
length_pairs (t ∷ p) = ap suc (length_pairs p)

pub path_length : (n : ℕ) (p : List Turn) → All (λ t. IsNumber n t.pair) p → IsApart p → length p ≤ n
path_length n p h a =
    omega (arith, length-le_from_distinct_below (0 ∷ pairs_of p) (n + 1) (IsDistinct-cons eqb 0 (pairs_of p) (above_zero n p h) (distinct p a)) (λ q e. below_all n p q h e), length_pairs p)

-- ---- the next path
pub path_start : (s : RowSystem) → IsPath s []
path_start s = record { fits = All-nil (Numbered (length s.pairs)); apart = tt }

pub path_advance : (s : RowSystem) (p q : List Turn) → IsPath s p → advance p ≡ Some q → IsPath s q
path_advance s [] q h e = cc
path_advance s (t ∷ p) q h e = go t.second e (path_advance s p q rest)
  where
    rest : IsPath s p
    rest = record { fits = All-tail (Numbered (length s.pairs)) t p h.fits; apart = h.apart.1 }

    turned : IsPath s (turn t.pair true ∷ p)
    turned = record { fits = All-cons (Numbered (length s.pairs)) (turn t.pair true) p (All-head (Numbered (length s.pairs)) t p h.fits) rest.fits; apart = h.apart }

    go : (b : Bool) → advance_by b t.pair p (advance p) ≡ Some q → (advance p ≡ Some q → IsPath s q) → IsPath s q
    go true f ih = ih f
    go false f ih = let g : turn t.pair true ∷ p ≡ q = cc in subst (λ (r : List Turn). IsPath s r) g turned

split_passed : (b : Bool) → cond b (Wrong Split) Fine ≡ Fine → b ≡ false
split_passed true e = cc
split_passed false e = refl

branched : (s : RowSystem) (p : List Turn) (k : ℕ) → IsPath s p → IsNumber (length s.pairs) k → is_split p k ≡ false → IsPath s (turn k false ∷ p)
branched s p k h n e = record { fits = All-cons (Numbered (length s.pairs)) (turn k false) p n h.fits; apart = (e, h.apart) }

pub path_next : (s : RowSystem) (best : Level) (p q : List Turn) (d : Node) → IsPath s p → NodeFits (length s.pairs) (length s.quantities) d → node_test s best p d ≡ Fine → next p d ≡ Some q → IsPath s q
path_next s best p q (Branch k) h f e o =
    let g : turn k false ∷ p ≡ q = cc in
    subst (λ (r : List Turn). IsPath s r) g (branched s p k h f (split_passed (is_split p k) e))
path_next s best p q (Farkas fs) h f e o = path_advance s p q h o
path_next s best p q (Bound w fs) h f e o = path_advance s p q h o

pub room : (s : RowSystem) (best : Level) (p : List Turn) (d : Node) → IsPath s p → NodeFits (length s.pairs) (length s.quantities) d → node_test s best p d ≡ Fine → RoomFor p d
room s best p (Branch k) h f e =
    let b = branched s p k h f (split_passed (is_split p k) e) in
    omega (arith, path_length (length s.pairs) (turn k false ∷ p) b.fits b.apart, few_pairs s)
room s best p (Farkas fs) h f e = tt
room s best p (Bound w fs) h f e = tt
