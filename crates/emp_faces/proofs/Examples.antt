-- All points of two small systems.
use Rattle.std.proofs.Common.{◌≡◌, ◌≢◌, inl, inr, ℕ, zero, suc, ◌<◌, ℤ, pos, negsuc, ◌≤ℤ◌, ◌<ℤ◌, List, [], ◌∷◌, length, get_or, Option, Some, None, arith, refl, ap}
use Rattle.std.proofs.lemmas.Int.{ints}
use Rattle.std.proofs.lemmas.List.Elements.{All-nil, All-cons}
use Rattle.std.specs.List.{All}
use Rattle.emp_num.specs.Exact.{IsNarrow}
use Rattle.emp_num.specs.Point.{Point}
use Rattle.emp_rows.specs.declared.affine.Affine.{Affine}
use Rattle.emp_rows.specs.declared.system.Kind.{Kind}
use Rattle.emp_rows.specs.Affine.{IsRow}
use Rattle.emp_rows.specs.RowPoints.{OneVanishes, Solves}
use Rattle.emp_rows.specs.Systems.{IsMember, AllDiffer}
use Rattle.emp_faces.specs.Shown.{OnSome, AreFaces}
use Rattle.emp_faces.specs.Example.{affine, both, IsAxes, axes, four, IsCorners, corners, ExampleAxes, ExampleCorners, ExamplePieces}

-- ---- the two are systems
two_cells : (a b : ℤ) → IsNarrow a → IsNarrow b → All IsNarrow (a ∷ b ∷ [])
two_cells a b h k = All-cons IsNarrow a (b ∷ []) h (All-cons IsNarrow b [] k (All-nil IsNarrow))

row : (c a b : ℤ) → IsNarrow c → IsNarrow a → IsNarrow b → IsRow 2 (affine c (a ∷ b ∷ []))
row c a b l h k = record { width = refl; constant = l; cells = two_cells a b h k }

rows_more : (r : Affine) (rs : List Affine) → IsRow 2 r → All (IsRow 2) rs → All (IsRow 2) (r ∷ rs)
rows_more r rs h k = All-cons (IsRow 2) r rs h k

no_rows : All (IsRow 2) []
no_rows = All-nil (IsRow 2)

firsts_more : (ks : List Kind) (a b : ℕ) (ps : List (ℕ × ℕ)) → IsMember ks a → All (λ p. IsMember ks p.0) ps → All (λ p. IsMember ks p.0) ((a, b) ∷ ps)
firsts_more ks a b ps h k = All-cons (λ p. IsMember ks p.0) (a, b) ps h k

seconds_more : (ks : List Kind) (a b : ℕ) (ps : List (ℕ × ℕ)) → IsMember ks b → All (λ p. IsMember ks p.1) ps → All (λ p. IsMember ks p.1) ((a, b) ∷ ps)
seconds_more ks a b ps h k = All-cons (λ p. IsMember ks p.1) (a, b) ps h k

differ_none : AllDiffer []
differ_none i j a b e = absurd (omega arith)

differ_more : (k : ℕ) (ks : List ℕ) → ((i : ℕ) → i < length ks → k ≡ get_or ks i 0 → ⊥) → AllDiffer ks → AllDiffer (k ∷ ks)
differ_more k ks n d zero zero a b e = absurd (omega arith)
differ_more k ks n d zero (suc j) a b e = n j (omega arith) e
differ_more k ks n d (suc i) zero a b e = absurd (omega arith)
differ_more k ks n d (suc i) (suc j) a b e = d i j (omega arith) (omega arith) e

one_left : (k l : ℕ) → k ≢ l → (i : ℕ) → i < length (l ∷ []) → k ≡ get_or (l ∷ []) i 0 → ⊥
one_left k l n zero b e = n e
one_left k l n (suc i) b e = absurd (omega arith)

more_left : (k l : ℕ) (ks : List ℕ) → k ≢ l → ((i : ℕ) → i < length ks → k ≡ get_or ks i 0 → ⊥) → (i : ℕ) → i < length (l ∷ ks) → k ≡ get_or (l ∷ ks) i 0 → ⊥
more_left k l ks n h zero b e = n e
more_left k l ks n h (suc i) b e = h i (omega arith) e

no_left : (k : ℕ) (i : ℕ) → i < 0 → k ≡ get_or [] i 0 → ⊥
no_left k i b e = absurd (omega arith)

pub is_axes : IsAxes
is_axes = record {
  few_variables = omega arith;
  few_quantities = omega arith;
  one_kind_each = refl;
  rows = rows_more (affine (pos 0) (pos 1 ∷ pos 0 ∷ [])) (affine (pos 0) (pos 0 ∷ pos 1 ∷ []) ∷ []) (row (pos 0) (pos 1) (pos 0) (omega arith) (omega arith) (omega arith)) (rows_more (affine (pos 0) (pos 0 ∷ pos 1 ∷ [])) [] (row (pos 0) (pos 0) (pos 1) (omega arith) (omega arith) (omega arith)) no_rows);
  first_members = firsts_more both 1 2 [] (record { above = omega arith; within = omega arith; nonneg = refl }) (All-nil (λ p. IsMember both p.0));
  second_members = seconds_more both 1 2 [] (record { above = omega arith; within = omega arith; nonneg = refl }) (All-nil (λ p. IsMember both p.1));
  apart = differ_more 1 (2 ∷ []) (one_left 1 2 (λ e. absurd (omega arith))) (differ_more 2 [] (no_left 2) differ_none);
  objective_row = λ r e. absurd (cc);
}

pub is_corners : IsCorners
is_corners = record {
  few_variables = omega arith;
  few_quantities = omega arith;
  one_kind_each = refl;
  rows = rows_more x (y ∷ z ∷ w ∷ []) (row (pos 0) (pos 1) (pos 0) (omega arith) (omega arith) (omega arith)) (rows_more y (z ∷ w ∷ []) (row (pos 0) (pos 0) (pos 1) (omega arith) (omega arith) (omega arith)) (rows_more z (w ∷ []) (row (pos 3) (negsuc 0) (negsuc 0) (omega arith) (omega arith) (omega arith)) (rows_more w [] (row (pos 2) (pos 0) (negsuc 0) (omega arith) (omega arith) (omega arith)) no_rows)));
  first_members = firsts_more four 1 3 ((2, 4) ∷ []) (record { above = omega arith; within = omega arith; nonneg = refl }) (firsts_more four 2 4 [] (record { above = omega arith; within = omega arith; nonneg = refl }) (All-nil (λ p. IsMember four p.0)));
  second_members = seconds_more four 1 3 ((2, 4) ∷ []) (record { above = omega arith; within = omega arith; nonneg = refl }) (seconds_more four 2 4 [] (record { above = omega arith; within = omega arith; nonneg = refl }) (All-nil (λ p. IsMember four p.1)));
  apart = differ_more 1 (3 ∷ 2 ∷ 4 ∷ []) (more_left 1 3 (2 ∷ 4 ∷ []) (λ e. absurd (omega arith)) (more_left 1 2 (4 ∷ []) (λ e. absurd (omega arith)) (one_left 1 4 (λ e. absurd (omega arith)))))
      (differ_more 3 (2 ∷ 4 ∷ []) (more_left 3 2 (4 ∷ []) (λ e. absurd (omega arith)) (one_left 3 4 (λ e. absurd (omega arith)))) (differ_more 2 (4 ∷ []) (one_left 2 4 (λ e. absurd (omega arith))) (differ_more 4 [] (no_left 4) differ_none)));
  objective_row = λ r e. absurd (cc);
}
  where
    x : Affine
    x = affine (pos 0) (pos 1 ∷ pos 0 ∷ [])

    y : Affine
    y = affine (pos 0) (pos 0 ∷ pos 1 ∷ [])

    z : Affine
    z = affine (pos 3) (negsuc 0 ∷ negsuc 0 ∷ [])

    w : Affine
    w = affine (pos 2) (pos 0 ∷ negsuc 0 ∷ [])

-- ---- points
one_positive : pos 0 <ℤ pos 1
one_positive = omega (arith, ints)

nonneg : (n : ℕ) → pos 0 ≤ℤ pos n
nonneg n = omega (arith, ints)

abbrev at_point : ℤ → ℤ → Point
at_point x y = record { den = pos 1; nums = x ∷ y ∷ []; positive = one_positive }

-- the first quantity of the first path
abbrev leading : Option (List (List ℕ) × (ℕ × ℕ)) → ℕ
leading None = 0
leading (Some (paths, left)) = get_or (get_or paths 0 []) 0 0

module _ (h : IsAxes) where
  pair_faces : (x : Point) → Solves (axes h) x → OnSome (axes h) ((1 ∷ []) ∷ (2 ∷ []) ∷ []) x
  pair_faces x sol = go (sol.pairs 0 (omega arith))
    where
      go : OneVanishes (axes h) x (1, 2) → OnSome (axes h) ((1 ∷ []) ∷ (2 ∷ []) ∷ []) x
      go (inl z) = inl (record { count = sol.count; kinds = sol.kinds; path = (z, tt) })
      go (inr z) = inr (inl (record { count = sol.count; kinds = sol.kinds; path = (z, tt) }))

  one_pair : (x : Point) → OneVanishes (axes h) x (1, 2) → (k : ℕ) → k < 1 → OneVanishes (axes h) x (get_or ((1, 2) ∷ []) k (0, 0))
  one_pair x o zero b = o
  one_pair x o (suc k) b = absurd (omega arith)

  faces_solve : (x : Point) → OnSome (axes h) ((1 ∷ []) ∷ (2 ∷ []) ∷ []) x → Solves (axes h) x
  faces_solve x (inl f) = record { count = f.count; kinds = f.kinds; pairs = one_pair x (inl f.path.0) }
  faces_solve x (inr (inl f)) = record { count = f.count; kinds = f.kinds; pairs = one_pair x (inr f.path.0) }
  faces_solve x (inr (inr f)) = absurd f

  right : Solves (axes h) (at_point (pos 1) (pos 0))
  right = record { count = refl; kinds = (nonneg 1, (nonneg 0, tt)); pairs = one_pair (at_point (pos 1) (pos 0)) (inr refl) }

  first_alone : AreFaces (axes h) ((1 ∷ []) ∷ []) → ⊥
  first_alone a = go ((a (at_point (pos 1) (pos 0))).0 right)
    where
      go : OnSome (axes h) ((1 ∷ []) ∷ []) (at_point (pos 1) (pos 0)) → ⊥
      go (inl f) = let z : pos 1 ≡ pos 0 = f.path.0 in absurd (cc)
      go (inr f) = f

  root_alone : AreFaces (axes h) ([] ∷ []) → ⊥
  root_alone a = go (((a (at_point (pos 1) (pos 1))).1 (inl (record { count = refl; kinds = (nonneg 1, (nonneg 1, tt)); path = tt }))).pairs 0 (omega arith))
    where
      go : OneVanishes (axes h) (at_point (pos 1) (pos 1)) (1, 2) → ⊥
      go (inl e) = let z : pos 1 ≡ pos 0 = e in absurd (cc)
      go (inr e) = let z : pos 1 ≡ pos 0 = e in absurd (cc)

  pub example_axes : ExampleAxes h
  example_axes = record {
    moves = refl;
    lists = refl;
    not_second_first = λ e. let z : 1 ≡ 2 = ap leading e in absurd (omega arith);
    asks = refl;
    faces = λ x. (pair_faces x, faces_solve x);
    not_first_alone = first_alone;
    not_root = root_alone;
  }

module _ (h : IsCorners) where
  two_pairs : (x : Point) → OneVanishes (corners h) x (1, 3) → OneVanishes (corners h) x (2, 4) → (k : ℕ) → k < 2 → OneVanishes (corners h) x (get_or ((1, 3) ∷ (2, 4) ∷ []) k (0, 0))
  two_pairs x o p zero b = o
  two_pairs x o p (suc zero) b = p
  two_pairs x o p (suc (suc k)) b = absurd (omega arith)

  third : Solves (corners h) (at_point (pos 3) (pos 0))
  third = record { count = refl; kinds = (nonneg 3, (nonneg 0, (nonneg 0, (nonneg 2, tt)))); pairs = two_pairs (at_point (pos 3) (pos 0)) (inr refl) (inl refl) }

  without_third : AreFaces (corners h) ((1 ∷ 2 ∷ []) ∷ (1 ∷ 4 ∷ []) ∷ (3 ∷ 4 ∷ []) ∷ []) → ⊥
  without_third a = go ((a (at_point (pos 3) (pos 0))).0 third)
    where
      go : OnSome (corners h) ((1 ∷ 2 ∷ []) ∷ (1 ∷ 4 ∷ []) ∷ (3 ∷ 4 ∷ []) ∷ []) (at_point (pos 3) (pos 0)) → ⊥
      go (inl f) = let z : pos 3 ≡ pos 0 = f.path.0 in absurd (cc)
      go (inr (inl f)) = let z : pos 3 ≡ pos 0 = f.path.0 in absurd (cc)
      go (inr (inr (inl f))) = let z : pos 2 ≡ pos 0 = f.path.1.0 in absurd (cc)
      go (inr (inr (inr f))) = f

  pub example_corners : ExampleCorners h
  example_corners = record {
    lists = refl;
    not_leaf_up = λ e. let z : 1 ≡ 2 = ap leading e in absurd (omega arith);
    not_without_third = without_third;
  }

pub example_pieces : ExamplePieces
example_pieces = record { is_axes = is_axes; axes = example_axes; is_corners = is_corners; corners = example_corners }
