-- The base variables that are ranges, whose numbers are taken times n, and those that are not.
use Rattle.std.proofs.Common.{◌≡◌, ℕ, zero, suc, ◌+◌, ◌<◌, ℤ, pos, ◌<ℤ◌, Bool, true, false, cond, ◌&&◌, List, [], ◌∷◌, length, map, Option, Some, None, refl, subst, ◌∙◌, arith, nat_eq}
use Rattle.std.specs.List.{All}
use Rattle.std.proofs.lemmas.Int.{ints}
use Rattle.std.proofs.lemmas.List.Elements.{All-head, All-tail}
use Rattle.std.proofs.lemmas.List.{length-map}
use Rattle.emp_ast.specs.declared.tree.VarId.{VarId}
use Rattle.emp_ast.specs.declared.tree.EquId.{EquId}
use Rattle.emp_split.specs.Games.{coordinates, dual_of}
use Rattle.emp_split.specs.Numbers.{holder, place_by}
use Rattle.emp_conditions.specs.Base.{Base, range, multiplier, base_slots, index_base, range_place, multiplier_place}
use Rattle.emp_problem.specs.declared.problem.AgentProblem.{AgentProblem}
use Rattle.emp_problem.specs.Problem.{game, place_of}
use Rattle.emp_kkt.specs.Items.{shape}
use Rattle.emp_quantities.proofs.Weights.{extra_weight, weight, weight_high, multiplier_weight}

pub weight_low : (n : ℤ) (c : ℕ) (bs : List Base) (i : ℕ) → i < c → weight n c bs i ≡ pos 1
weight_low n zero bs i h = absurd (omega (arith, h))
weight_low n (suc c) bs zero h = refl
weight_low n (suc c) bs (suc i) h = weight_low n c bs i (omega (arith, h))

extra_above : (n : ℤ) (bs : List Base) (i : ℕ) → pos 0 <ℤ n → pos 0 <ℤ extra_weight n bs i
extra_above n [] i h = omega (arith, ints)
extra_above n (range j k ∷ bs) zero h = h
extra_above n (multiplier j e ∷ bs) zero h = omega (arith, ints)
extra_above n (range j k ∷ bs) (suc i) h = extra_above n bs i h
extra_above n (multiplier j e ∷ bs) (suc i) h = extra_above n bs i h

pub weight_above : (n : ℤ) (c : ℕ) (bs : List Base) (i : ℕ) → pos 0 <ℤ n → pos 0 <ℤ weight n c bs i
weight_above n zero bs i h = extra_above n bs i h
weight_above n (suc c) bs zero h = omega (arith, ints)
weight_above n (suc c) bs (suc i) h = weight_above n c bs i h

pub range_weight : (n : ℤ) (j k : ℕ) (bs : List Base) → index_base (range j k) bs < length bs → extra_weight n bs (index_base (range j k) bs) ≡ n
range_weight n j k [] l = absurd (omega (arith, l))
range_weight n j k (multiplier i f ∷ bs) l = range_weight n j k bs (omega (arith, l))
range_weight n j k (range i m ∷ bs) l = go (range_weight n j k bs) (nat_eq i j && nat_eq m k) l
  where
    go : (index_base (range j k) bs < length bs → extra_weight n bs (index_base (range j k) bs) ≡ n) → (t : Bool) → cond t 0 (suc (index_base (range j k) bs)) < length (range i m ∷ bs) → extra_weight n (range i m ∷ bs) (cond t 0 (suc (index_base (range j k) bs))) ≡ n
    go rest true h = refl
    go rest false h = rest (omega (arith, h))

pub index_differs : (h e j k : ℕ) (bs : List Base) → index_base (range j k) bs < length bs → index_base (multiplier h e) bs ≡ index_base (range j k) bs → ⊥
index_differs h e j k [] l q = omega (arith, l)
index_differs h e j k (multiplier i f ∷ bs) l q = go (λ g. index_differs h e j k bs (omega (arith, l)) g) (nat_eq i h && nat_eq f e) q
  where
    go : (index_base (multiplier h e) bs ≡ index_base (range j k) bs → ⊥) → (t : Bool) → cond t 0 (suc (index_base (multiplier h e) bs)) ≡ suc (index_base (range j k) bs) → ⊥
    go rest true g = omega (arith, g)
    go rest false g = rest (omega (arith, g))
index_differs h e j k (range i m ∷ bs) l q = go (λ y g. index_differs h e j k bs y g) (nat_eq i j && nat_eq m k) l q
  where
    go : (index_base (range j k) bs < length bs → index_base (multiplier h e) bs ≡ index_base (range j k) bs → ⊥) → (t : Bool) → cond t 0 (suc (index_base (range j k) bs)) < length (range i m ∷ bs) → suc (index_base (multiplier h e) bs) ≡ cond t 0 (suc (index_base (range j k) bs)) → ⊥
    go rest true y g = omega (arith, g)
    go rest false y g = rest (omega (arith, y)) (omega (arith, g))

-- ---- of a problem
pub coordinates_are : (pr : AgentProblem) → coordinates (shape pr) ≡ length pr.variables
coordinates_are pr = length-map pr.variables (λ v. (v.low, v.high))

dual_below : (pr : AgentProblem) (ds : List (VarId × EquId)) (e k : ℕ) → All (λ d. place_of pr d.0 < length pr.variables) ds → dual_of (map (λ d. (place_of pr d.0, d.1.at)) ds) e ≡ Some k → k < length pr.variables
dual_below pr [] e k h g = cc
dual_below pr (d ∷ ds) e k h g = go (λ y. dual_below pr ds e k (All-tail (λ d. place_of pr d.0 < length pr.variables) d ds h) y) (nat_eq d.1.at e) g
  where
    go : (dual_of (map (λ d. (place_of pr d.0, d.1.at)) ds) e ≡ Some k → k < length pr.variables) → (t : Bool) → cond t (Some (place_of pr d.0)) (dual_of (map (λ d. (place_of pr d.0, d.1.at)) ds) e) ≡ Some k → k < length pr.variables
    go rest true y = let z : place_of pr d.0 ≡ k = cc in subst (λ m. m < length pr.variables) z (All-head (λ d. place_of pr d.0 < length pr.variables) d ds h)
    go rest false y = rest y

module _ (n : ℤ) (pr : AgentProblem) (duals : All (λ d. place_of pr d.0 < length pr.variables) pr.duals) where
  abbrev pub W : ℕ → ℤ
  W i = weight n (coordinates (game n pr)) (base_slots (game n pr)) i

  pub multiplier_counts_once : (j e : ℕ) → W (multiplier_place (game n pr) j e) ≡ pos 1
  multiplier_counts_once j e = go (dual_of (shape pr).duals e) refl
    where
      go : (o : Option ℕ) → dual_of (shape pr).duals e ≡ o → W (place_by o (coordinates (game n pr) + index_base (multiplier (holder (game n pr) j e) e) (base_slots (game n pr)))) ≡ pos 1
      go (Some k) h = weight_low n (coordinates (game n pr)) (base_slots (game n pr)) k (let z = dual_below pr pr.duals e k duals h in let y = coordinates_are pr in omega (arith, z, y))
      go None h = weight_high n (coordinates (game n pr)) (base_slots (game n pr)) (index_base (multiplier (holder (game n pr) j e) e) (base_slots (game n pr))) ∙ multiplier_weight n (holder (game n pr) j e) e (base_slots (game n pr))

  pub multiplier_is_no_range : (j e i k : ℕ) → index_base (range i k) (base_slots (game n pr)) < length (base_slots (game n pr)) → multiplier_place (game n pr) j e ≡ range_place (game n pr) i k → ⊥
  multiplier_is_no_range j e i k there h = go (dual_of (shape pr).duals e) refl h
    where
      go : (o : Option ℕ) → dual_of (shape pr).duals e ≡ o → place_by o (coordinates (game n pr) + index_base (multiplier (holder (game n pr) j e) e) (base_slots (game n pr))) ≡ coordinates (game n pr) + index_base (range i k) (base_slots (game n pr)) → ⊥
      go (Some m) g q = let z = dual_below pr pr.duals e m duals g in let y = coordinates_are pr in omega (arith, z, y, q)
      go None g q = index_differs (holder (game n pr) j e) e i k (base_slots (game n pr)) there (omega (arith, q))
