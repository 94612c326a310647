-- A variational inequality without constraints is solved exactly at its complementary points.
use Rattle.std.proofs.Common.{◌≡◌, ◌⊎◌, inl, inr, ℕ, zero, suc, ◌<◌, ◌≢◌, ℤ, pos, neg_ℤ, ◌+ℤ◌, ◌-ℤ◌, ◌*ℤ◌, ◌≤ℤ◌, ◌<ℤ◌, Bool, true, false, ◌&&◌, ◌||◌, not, nat_eq, List, [], ◌∷◌, ◌++◌, map, length, get_or, set, Option, Some, None, arith, refl, sym, ap, subst, ◌∙◌, append-nil}
use Rattle.std.specs.Prelude.{slice_get, option_map}
use Rattle.std.specs.List.{list_any}
use Rattle.std.proofs.lemmas.Int.{ints}
use Rattle.std.proofs.lemmas.Bool.{eq-eqb, cases_eq}
use Rattle.std.proofs.lemmas.Option.{slice_get-get_or}
use Rattle.std.proofs.lemmas.List.{length-set, get_or-set_same, get_or-set_other}
use Rattle.std.proofs.lemmas.List.Folds.{list_any-append}
use Rattle.emp_algebra.proofs.Laws.{mul_nonneg, mul_pos}
use Rattle.emp_algebra.proofs.Ring.{var, lit, ◌⊕◌, ◌⊖◌, ◌⊗◌, neg, by_ring}
use Rattle.emp_algebra.proofs.Order.{linear, le_cancel_right, le_or_lt, mul_le_right, mul_lt_right}
use Rattle.emp_algebra.proofs.Vectors.{length-scale, cell-scale}
use Rattle.emp_algebra.specs.Vector.{cell, scale}
use Rattle.emp_num.specs.Ratio.{Ratio, ratio, times, SameRatio, AtMostRatio}
use Rattle.emp_num.specs.Point.{Point, coordinate}
use Rattle.emp_ast.specs.declared.tree.VarId.{VarId}
use Rattle.emp_ast.specs.declared.model.End.{End}
use Rattle.emp_ast.specs.declared.model.End.TheVariants.{Open, At}
use Rattle.emp_ast.specs.declared.model.Variable.{Variable}
use Rattle.emp_ast.specs.declared.model.Model.{Model}
use Rattle.emp_ast.specs.Meets.{MeetsBounds, IsAbove, IsBelow}
use Rattle.emp_ast.specs.Parties.{block, names_variable, names_equation, owns, is_constraint, constraints, EachOwn}
use Rattle.emp_ast.specs.Rivals.{Fits, IsRival}
use Rattle.emp_ast.specs.Solved.{gap, flow, step_to, IsAtLeastZero, IsSolved}
use Rattle.emp_ast.specs.SameLaws.{SameFraction}
use Rattle.emp_ast.proofs.Fractions.{fraction_itself, at_most_same, from_nought, to_nought}
use Rattle.emp_ast.specs.Equilibrium.{IsEquilibrium, is_priced}
use Rattle.emp_ast.specs.Multipliers.{AreMultipliers}
use Rattle.emp_mcp.specs.Complementary.{Match, IsAt, IsAtMostZero, IsThere}
use Rattle.emp_mcp.specs.Block.{vi_file, AreApart, BlockIsComplementary, BlocksAreComplementary}
use Rattle.emp_mcp.specs.Target.{no_variable}
use Rattle.emp_owner.proofs.Lists.{any_map}
use Rattle.emp_mcp.proofs.Places.{or_right}
use Rattle.emp_mcp.proofs.Flows.{nonneg, product_down, gap_above, IsUpThere, term, flow_up, up_at_least, at_least_there, flow_there, flow_single}

-- ---- the file of one block
and_not : (b c : Bool) → b ≡ c → (b && true && not c) ≡ false
and_not true c e = ap not (sym e)
and_not false c e = refl

no_constraint : (m : Model) (zeros : List VarId) (pairs : List Match) (e : ℕ) → is_constraint m (vi_file zeros pairs) (block 0) e ≡ false
no_constraint m zeros pairs e =
    let fs = map (λ q. q.0) pairs in
    and_not (names_equation ((fs ++ []) ++ []) e) (names_equation fs e) (ap (λ es. names_equation es e) (append-nil (fs ++ []) ∙ append-nil fs))

none_of : {X : Type 0} (xs : List X) → list_any (λ x. false) xs ≡ false
none_of [] = refl
none_of (x ∷ xs) = none_of xs

differ : {A : Type 0} (b : Bool) → b ≡ false → b ≡ true → A
differ true e f = cc
differ false e f = cc

pub any_at : {X : Type 0} (p : X → Bool) (xs : List X) (i : ℕ) (x : X) → slice_get xs i ≡ Some x → p x ≡ true → list_any p xs ≡ true
any_at p [] i x at h = cc
any_at p (y ∷ xs) zero x at h = let same : y ≡ x = cc in ap (λ z. p z || list_any p xs) same ∙ ap (λ b. b || list_any p xs) h
any_at p (y ∷ xs) (suc i) x at h = or_right (p y) (list_any p xs) (any_at p xs i x at h)

pair_owned : (m : Model) (zeros : List VarId) (pairs : List Match) (i : ℕ) (q : Match) → slice_get pairs i ≡ Some q → owns m (vi_file zeros pairs) (block 0) q.1.at ≡ true
pair_owned m zeros pairs i q at =
    list_any-append (λ v. nat_eq v.at q.1.at) zeros (map (λ r. r.1) pairs)
    ∙ or_right (names_variable zeros q.1.at) (names_variable (map (λ r. r.1) pairs) q.1.at)
    (any_map (λ v. nat_eq v.at q.1.at) (λ r. r.1) pairs ∙ any_at (λ r. nat_eq r.1.at q.1.at) pairs i q at (eq-eqb q.1.at q.1.at refl))

-- rivals are the points that agree outside and are within the bounds
rival : (m : Model) (zeros : List VarId) (pairs : List Match) (p r : Point) → Fits m r → ((v : ℕ) → v < length m.variables → owns m (vi_file zeros pairs) (block 0) v ≡ false → SameRatio (coordinate r v) (coordinate p v)) → EachOwn m (vi_file zeros pairs) (block 0) (λ v x. MeetsBounds r v x) → IsRival m (vi_file zeros pairs) (block 0) p r
rival m zeros pairs p r fits others bounds = record {
  deviation = record { fits = fits; others = others; bounds = bounds; definition = λ e q at d. differ false refl d };
  constraints = λ e q at d. differ (is_constraint m (vi_file zeros pairs) (block 0) e) (no_constraint m zeros pairs e) d;
}

-- ---- signs of a step
-- T is r - p times both denominators
module _ (rn rd pn pd : ℤ) (gn gd : ℤ) (pd_up : pos 0 <ℤ pd) (gd_up : pos 0 <ℤ gd) (rd_up : pos 0 <ℤ rd) where
  scaled : (rn *ℤ pd +ℤ neg_ℤ pn *ℤ rd) *ℤ gd ≡ (rn *ℤ gd) *ℤ pd -ℤ (pn *ℤ gd) *ℤ rd
  scaled = by_ring (rn ∷ pd ∷ pn ∷ rd ∷ gd ∷ []) ((var 0 ⊗ var 1 ⊕ neg (var 2) ⊗ var 3) ⊗ var 4) ((var 0 ⊗ var 4) ⊗ var 1 ⊖ (var 2 ⊗ var 4) ⊗ var 3) refl

  turned : (gn *ℤ pd) *ℤ rd ≡ (gn *ℤ rd) *ℤ pd
  turned = by_ring (gn ∷ pd ∷ rd ∷ []) ((var 0 ⊗ var 1) ⊗ var 2) ((var 0 ⊗ var 2) ⊗ var 1) refl

  zero_is : pos 0 *ℤ gd ≡ pos 0
  zero_is = by_ring (gd ∷ []) (lit (pos 0) ⊗ var 0) (lit (pos 0)) refl

  -- p is at the end g, and r is at most g
  not_up : pn *ℤ gd ≡ gn *ℤ pd → (rn *ℤ gd) ≤ℤ (gn *ℤ rd) → (rn *ℤ pd +ℤ neg_ℤ pn *ℤ rd) ≤ℤ pos 0
  not_up at below =
      let a : (pn *ℤ gd) *ℤ rd ≡ (gn *ℤ rd) *ℤ pd = ap (λ z. z *ℤ rd) at ∙ turned in
      let b = mul_le_right (rn *ℤ gd) (gn *ℤ rd) pd below (nonneg pd pd_up) in
      let s = scaled in
      let z = zero_is in
      le_cancel_right (rn *ℤ pd +ℤ neg_ℤ pn *ℤ rd) (pos 0) gd (omega (arith, linear)) gd_up

  not_down : pn *ℤ gd ≡ gn *ℤ pd → (gn *ℤ rd) ≤ℤ (rn *ℤ gd) → pos 0 ≤ℤ (rn *ℤ pd +ℤ neg_ℤ pn *ℤ rd)
  not_down at above =
      let a : (pn *ℤ gd) *ℤ rd ≡ (gn *ℤ rd) *ℤ pd = ap (λ z. z *ℤ rd) at ∙ turned in
      let b = mul_le_right (gn *ℤ rd) (rn *ℤ gd) pd above (nonneg pd pd_up) in
      let s = scaled in
      let z = zero_is in
      le_cancel_right (pos 0) (rn *ℤ pd +ℤ neg_ℤ pn *ℤ rd) gd (omega (arith, linear)) gd_up

  -- r is at g: f times (r - p) has the sign of f times (g - p)
  sign_of : (f : ℤ) → rn *ℤ gd ≡ gn *ℤ rd → pos 0 ≤ℤ (f *ℤ (rn *ℤ pd +ℤ neg_ℤ pn *ℤ rd)) → pos 0 ≤ℤ (f *ℤ (gn *ℤ pd -ℤ pn *ℤ gd))
  sign_of f at up =
      let a : (rn *ℤ gd) *ℤ pd ≡ (gn *ℤ rd) *ℤ pd = ap (λ z. z *ℤ pd) at in
      let b = mul_le_right (pos 0) (f *ℤ (rn *ℤ pd +ℤ neg_ℤ pn *ℤ rd)) gd up (nonneg gd gd_up) in
      let s : (f *ℤ (rn *ℤ pd +ℤ neg_ℤ pn *ℤ rd)) *ℤ gd ≡ f *ℤ ((rn *ℤ gd) *ℤ pd) -ℤ f *ℤ ((pn *ℤ gd) *ℤ rd) =
      by_ring (rn ∷ pd ∷ pn ∷ rd ∷ gd ∷ f ∷ []) ((var 5 ⊗ (var 0 ⊗ var 1 ⊕ neg (var 2) ⊗ var 3)) ⊗ var 4) (var 5 ⊗ ((var 0 ⊗ var 4) ⊗ var 1) ⊖ var 5 ⊗ ((var 2 ⊗ var 4) ⊗ var 3)) refl in
      let t : (f *ℤ (gn *ℤ pd -ℤ pn *ℤ gd)) *ℤ rd ≡ f *ℤ ((gn *ℤ rd) *ℤ pd) -ℤ f *ℤ ((pn *ℤ gd) *ℤ rd) =
      by_ring (gn ∷ pd ∷ pn ∷ rd ∷ gd ∷ f ∷ []) ((var 5 ⊗ (var 0 ⊗ var 1 ⊖ var 2 ⊗ var 4)) ⊗ var 3) (var 5 ⊗ ((var 0 ⊗ var 3) ⊗ var 1) ⊖ var 5 ⊗ ((var 2 ⊗ var 4) ⊗ var 3)) refl in
      let c = ap (λ z. f *ℤ z) a in
      let z = zero_is in
      let y : pos 0 *ℤ rd ≡ pos 0 = by_ring (rd ∷ []) (lit (pos 0) ⊗ var 0) (lit (pos 0)) refl in
      le_cancel_right (pos 0) (f *ℤ (gn *ℤ pd -ℤ pn *ℤ gd)) rd (omega (arith, linear)) rd_up

-- ---- complementary points solve the block
sign_cases : (z : ℤ) → (pos 0 <ℤ z) ⊎ ((z ≡ pos 0) ⊎ (z <ℤ pos 0))
sign_cases z = grind (arith, ints)

stops_up : (p r : Point) (v : ℕ) (end : End) → IsAt (coordinate p v) end → IsBelow (coordinate r v) end → (step_to p r v).top ≤ℤ pos 0
stops_up p r v Open at h = absurd at
stops_up p r v (At g) at h = not_up (cell r.nums v) r.den (cell p.nums v) p.den g.num g.den p.positive g.positive r.positive at h

stops_down : (p r : Point) (v : ℕ) (end : End) → IsAt (coordinate p v) end → IsAbove (coordinate r v) end → pos 0 ≤ℤ (step_to p r v).top
stops_down p r v Open at h = absurd at
stops_down p r v (At g) at h = not_down (cell r.nums v) r.den (cell p.nums v) p.den g.num g.den p.positive g.positive r.positive at h

term_up : (p r : Point) (v : ℕ) (x : Variable) (o : Option Ratio) → MeetsBounds r v x → ((f : Ratio) → o ≡ Some f → pos 0 <ℤ f.bottom) → IsThere o → ((IsAt (coordinate p v) x.low → ⊥) → IsAtMostZero o) → ((IsAt (coordinate p v) x.high → ⊥) → IsAtLeastZero o) → IsUpThere (option_map (λ f. times f (step_to p r v)) o)
term_up p r v x None within above there low high = there
term_up p r v x (Some f) within above there low high = record {
  above = mul_pos f.bottom (r.den *ℤ p.den) (above f refl) (mul_pos r.den p.den r.positive p.positive);
  sign = go (sign_cases (step_to p r v).top);
}
  where
    go : (pos 0 <ℤ (step_to p r v).top) ⊎ (((step_to p r v).top ≡ pos 0) ⊎ ((step_to p r v).top <ℤ pos 0)) → pos 0 ≤ℤ (f.top *ℤ (step_to p r v).top)
    go (inl up) = mul_nonneg f.top (step_to p r v).top ((from_nought f).0 (high (λ at. let s = stops_up p r v x.high at within.1 in absurd (omega (arith, ints))))) (nonneg (step_to p r v).top up)
    go (inr (inl level)) = let e : f.top *ℤ (step_to p r v).top ≡ pos 0 = ap (λ z. f.top *ℤ z) level ∙ by_ring (f.top ∷ []) (var 0 ⊗ lit (pos 0)) (lit (pos 0)) refl in subst (λ z. pos 0 ≤ℤ z) (sym e) (omega (arith, ints))
    go (inr (inr down)) = product_down f.top (step_to p r v).top ((to_nought f).0 (low (λ at. let s = stops_down p r v x.low at within.0 in absurd (omega (arith, ints))))) (omega (arith, ints))

pub variable_at : (m : Model) (v : ℕ) → v < length m.variables → (x : Variable) × (slice_get m.variables v ≡ Some x)
variable_at m v l = (get_or m.variables v no_variable, slice_get-get_or m.variables v no_variable l)

complementary_solves : (m : Model) (zeros : List VarId) (pairs : List Match) (p : Point) → AreApart m pairs → BlockIsComplementary m zeros pairs p → IsSolved m (vi_file zeros pairs) 0 p
complementary_solves m zeros pairs p apart h = record {
  feasible = rival m zeros pairs p p h.fits (λ v l o. refl) h.bounds;
  best = λ r riv. up_at_least (flow m p (step_to p r) pairs) (flow_up m p (step_to p r) pairs (each r riv));
}
  where
    each : (r : Point) → IsRival m (vi_file zeros pairs) (block 0) p r → (i : ℕ) (q : Match) → slice_get pairs i ≡ Some q → IsUpThere (term m p (step_to p r) q)
    each r riv i q at =
        let x = variable_at m q.1.at (apart.within i q at) in
        term_up p r q.1.at x.0 (gap m p q.0.at) (riv.deviation.bounds q.1.at x.0 x.1 (pair_owned m zeros pairs i q at)) (λ f e. gap_above m p q.0.at f e) (h.there i q x.0 at x.1) (h.above_low i q x.0 at x.1) (h.below_high i q x.0 at x.1)

nothing : Ratio
nothing = ratio (pos 0) (pos 1)

pub lifts : (m : Model) (zeros : List VarId) (pairs : List Match) (p : Point) → AreApart m pairs → BlockIsComplementary m zeros pairs p → IsEquilibrium m (vi_file zeros pairs) p
lifts m zeros pairs p apart h = record {
  fits = h.fits;
  solved = solved;
  choice = λ k e. nothing;
  prices = record {
    multipliers = priced;
    duals = λ k i d l at c. cc;
    shared = λ j k e l n s c d. differ false refl s;
  };
}
  where
    solved : (k : ℕ) → k < 1 → IsSolved m (vi_file zeros pairs) k p
    solved zero l = complementary_solves m zeros pairs p apart h
    solved (suc k) l = absurd (omega arith)

    priced : (k : ℕ) → k < 1 → is_priced m (vi_file zeros pairs) k ≡ true → AreMultipliers m (vi_file zeros pairs) k p (λ e. nothing)
    priced k l is = differ (is_priced m (vi_file zeros pairs) k) (none_of (constraints m (vi_file zeros pairs) (block k))) is

-- ---- a solved block is complementary
-- p with the fraction g in the place of v's coordinate
abbrev moved : Point → ℕ → (g : Ratio) → pos 0 <ℤ g.bottom → Point
moved p v g h = record { den = p.den *ℤ g.bottom; nums = set (scale g.bottom p.nums) v (g.top *ℤ p.den); positive = mul_pos p.den g.bottom p.positive h }

module _ (m : Model) (p : Point) (fits : Fits m p) (v : ℕ) (inside : v < length m.variables) (g : Ratio) (up : pos 0 <ℤ g.bottom) where
  abbrev r : Point
  r = moved p v g up

  moved_fits : Fits m r
  moved_fits = length-set (scale g.bottom p.nums) v (g.top *ℤ p.den) ∙ length-scale g.bottom p.nums ∙ fits

  moved_here : SameRatio (coordinate r v) g
  moved_here =
      ap (λ z. z *ℤ g.bottom) (get_or-set_same (scale g.bottom p.nums) v (g.top *ℤ p.den) (pos 0) (subst (λ n. v < n) (sym (length-scale g.bottom p.nums ∙ fits)) inside))
      ∙ by_ring (g.top ∷ p.den ∷ g.bottom ∷ []) (var 0 ⊗ var 1 ⊗ var 2) (var 0 ⊗ (var 1 ⊗ var 2)) refl

  moved_other : (u : ℕ) → u ≢ v → cell r.nums u ≡ g.bottom *ℤ cell p.nums u
  moved_other u ne = get_or-set_other (scale g.bottom p.nums) v u (g.top *ℤ p.den) (pos 0) ne ∙ cell-scale g.bottom p.nums u

  moved_same : (u : ℕ) → u ≢ v → SameRatio (coordinate r u) (coordinate p u)
  moved_same u ne = ap (λ z. z *ℤ p.den) (moved_other u ne) ∙ by_ring (g.bottom ∷ cell p.nums u ∷ p.den ∷ []) (var 0 ⊗ var 1 ⊗ var 2) (var 1 ⊗ (var 2 ⊗ var 0)) refl

  moved_still : (u : ℕ) → u ≢ v → (step_to p r u).top ≡ pos 0
  moved_still u ne =
      ap (λ z. z *ℤ p.den +ℤ neg_ℤ (cell p.nums u) *ℤ (p.den *ℤ g.bottom)) (moved_other u ne)
      ∙ by_ring (g.bottom ∷ cell p.nums u ∷ p.den ∷ []) (var 0 ⊗ var 1 ⊗ var 2 ⊕ neg (var 1) ⊗ (var 2 ⊗ var 0)) (lit (pos 0)) refl

pub same_above : (a b : Ratio) (end : End) → SameFraction a b → IsAbove a end → IsAbove b end
same_above a b Open s h = h
same_above a b (At f) s h = at_most_same (ratio f.num f.den) (ratio f.num f.den) a b (fraction_itself (ratio f.num f.den) f.positive) s h

pub same_below : (a b : Ratio) (end : End) → SameFraction a b → IsBelow a end → IsBelow b end
same_below a b Open s h = h
same_below a b (At f) s h = at_most_same a b (ratio f.num f.den) (ratio f.num f.den) s (fraction_itself (ratio f.num f.den) f.positive) h

same_bound : (p r : Point) (u : ℕ) (x : Variable) → SameRatio (coordinate r u) (coordinate p u) → MeetsBounds p u x → MeetsBounds r u x
same_bound p r u x same h =
    let here : SameFraction (coordinate p u) (coordinate r u) = record { left = p.positive; right = r.positive; same = sym same } in
    (same_above (coordinate p u) (coordinate r u) x.low here h.0, same_below (coordinate p u) (coordinate r u) x.high here h.1)

-- a is at most b, and b at most c
at_most_on : (a b c : Ratio) → pos 0 <ℤ a.bottom → pos 0 <ℤ b.bottom → pos 0 <ℤ c.bottom → AtMostRatio a b → AtMostRatio b c → AtMostRatio a c
at_most_on a b c au bu cu h k =
    let l = mul_le_right (a.top *ℤ b.bottom) (b.top *ℤ a.bottom) c.bottom h (nonneg c.bottom cu) in
    let n = mul_le_right (b.top *ℤ c.bottom) (c.top *ℤ b.bottom) a.bottom k (nonneg a.bottom au) in
    let e : (a.top *ℤ b.bottom) *ℤ c.bottom ≡ (a.top *ℤ c.bottom) *ℤ b.bottom = by_ring (a.top ∷ b.bottom ∷ c.bottom ∷ []) ((var 0 ⊗ var 1) ⊗ var 2) ((var 0 ⊗ var 2) ⊗ var 1) refl in
    let f : (b.top *ℤ a.bottom) *ℤ c.bottom ≡ (b.top *ℤ c.bottom) *ℤ a.bottom = by_ring (b.top ∷ a.bottom ∷ c.bottom ∷ []) ((var 0 ⊗ var 1) ⊗ var 2) ((var 0 ⊗ var 2) ⊗ var 1) refl in
    let g : (c.top *ℤ b.bottom) *ℤ a.bottom ≡ (c.top *ℤ a.bottom) *ℤ b.bottom = by_ring (c.top ∷ b.bottom ∷ a.bottom ∷ []) ((var 0 ⊗ var 1) ⊗ var 2) ((var 0 ⊗ var 2) ⊗ var 1) refl in
    le_cancel_right (a.top *ℤ c.bottom) (c.top *ℤ a.bottom) b.bottom (omega (arith, linear)) bu

below_on : (a b : Ratio) (end : End) → pos 0 <ℤ a.bottom → pos 0 <ℤ b.bottom → AtMostRatio a b → IsBelow b end → IsBelow a end
below_on a b Open au bu h k = k
below_on a b (At f) au bu h k = at_most_on a b (ratio f.num f.den) au bu f.positive h k

above_on : (a b : Ratio) (end : End) → pos 0 <ℤ a.bottom → pos 0 <ℤ b.bottom → AtMostRatio a b → IsAbove a end → IsAbove b end
above_on a b Open au bu h k = k
above_on a b (At f) au bu h k = at_most_on (ratio f.num f.den) a b f.positive au bu k h

-- the sign of a factor, where the other is known
falls : (f d : ℤ) → d <ℤ pos 0 → pos 0 ≤ℤ (f *ℤ d) → f ≤ℤ pos 0
falls f d h up = go (le_or_lt f (pos 0))
  where
    go : (f ≤ℤ pos 0) ⊎ (pos 0 <ℤ f) → f ≤ℤ pos 0
    go (inl l) = l
    go (inr l) =
        let k = mul_lt_right d (pos 0) f h l in
        let z : pos 0 *ℤ f ≡ pos 0 = by_ring (f ∷ []) (lit (pos 0) ⊗ var 0) (lit (pos 0)) refl in
        let c : d *ℤ f ≡ f *ℤ d = by_ring (d ∷ f ∷ []) (var 0 ⊗ var 1) (var 1 ⊗ var 0) refl in
        absurd (omega (arith, linear))

strictly : (a b : ℤ) → a ≤ℤ b → (a ≡ b → ⊥) → (a -ℤ b) <ℤ pos 0
strictly a b h n = go (split a b)
  where
    split : (a b : ℤ) → (a <ℤ b) ⊎ ((a ≡ b) ⊎ (b <ℤ a))
    split a b = grind (arith, ints)

    go : (a <ℤ b) ⊎ ((a ≡ b) ⊎ (b <ℤ a)) → (a -ℤ b) <ℤ pos 0
    go (inl l) = omega (arith, ints)
    go (inr (inl e)) = absurd (n e)
    go (inr (inr l)) = absurd (omega (arith, ints))

rises : (f d : ℤ) → pos 0 <ℤ d → pos 0 ≤ℤ (f *ℤ d) → pos 0 ≤ℤ f
rises f d h up = let z : pos 0 *ℤ d ≡ pos 0 = by_ring (d ∷ []) (lit (pos 0) ⊗ var 0) (lit (pos 0)) refl in le_cancel_right (pos 0) f d (omega (arith, linear)) h

module _ (m : Model) (zeros : List VarId) (pairs : List Match) (p : Point) (apart : AreApart m pairs) (s : IsSolved m (vi_file zeros pairs) 0 p) where
  fits_here : Fits m p
  fits_here = s.feasible.deviation.fits

  -- the variable of a pair may move to g, where g is within its bounds
  module _ (i : ℕ) (q : Match) (x : Variable) (at : slice_get pairs i ≡ Some q) (is : slice_get m.variables q.1.at ≡ Some x) (f : Ratio) (value : gap m p q.0.at ≡ Some f) where
    may_move : (g : Ratio) (up : pos 0 <ℤ g.bottom) → MeetsBounds (moved p q.1.at g up) q.1.at x → pos 0 ≤ℤ (f.top *ℤ (g.top *ℤ p.den -ℤ cell p.nums q.1.at *ℤ g.bottom))
    may_move g up within =
        let v = q.1.at in
        let t = moved p v g up in
        let inside = apart.within i q at in
        let riv = rival m zeros pairs p t (moved_fits m p fits_here v inside g up) (others g up) (bounds g up within) in
        let sum = flow_single m p (step_to p t) (λ u. mul_pos t.den p.den t.positive p.positive) pairs i q f at value (still g up) (s.best t riv) in
        sign_of (cell t.nums v) t.den (cell p.nums v) p.den g.top g.bottom p.positive up t.positive f.top (moved_here m p fits_here v inside g up) sum
      where
        apart_from : (u : ℕ) → owns m (vi_file zeros pairs) (block 0) u ≡ false → u ≢ q.1.at
        apart_from u o e = differ (owns m (vi_file zeros pairs) (block 0) u) o (ap (λ z. owns m (vi_file zeros pairs) (block 0) z) e ∙ pair_owned m zeros pairs i q at)

        others : (g : Ratio) (up : pos 0 <ℤ g.bottom) (u : ℕ) → u < length m.variables → owns m (vi_file zeros pairs) (block 0) u ≡ false → SameRatio (coordinate (moved p q.1.at g up) u) (coordinate p u)
        others g up u l o = moved_same m p fits_here q.1.at (apart.within i q at) g up u (apart_from u o)

        bounds : (g : Ratio) (up : pos 0 <ℤ g.bottom) → MeetsBounds (moved p q.1.at g up) q.1.at x → EachOwn m (vi_file zeros pairs) (block 0) (λ u y. MeetsBounds (moved p q.1.at g up) u y)
        bounds g up within u y here o = go (cases_eq u q.1.at)
          where
            go : (u ≡ q.1.at) ⊎ (u ≡ q.1.at → ⊥) → MeetsBounds (moved p q.1.at g up) u y
            go (inl e) =
                let same : Some x ≡ Some y = sym is ∙ (ap (λ z. slice_get m.variables z) (sym e) ∙ here) in
                let one : x ≡ y = cc in
                subst (λ z. MeetsBounds (moved p q.1.at g up) z y) (sym e) (subst (λ z. MeetsBounds (moved p q.1.at g up) q.1.at z) one within)
            go (inr n) = same_bound p (moved p q.1.at g up) u y (moved_same m p fits_here q.1.at (apart.within i q at) g up u n) (s.feasible.deviation.bounds u y here o)

        still : (g : Ratio) (up : pos 0 <ℤ g.bottom) (j : ℕ) (r : Match) → slice_get pairs j ≡ Some r → j ≢ i → (step_to p (moved p q.1.at g up) r.1.at).top ≡ pos 0
        still g up j r there n = moved_still m p fits_here q.1.at (apart.within i q at) g up r.1.at (λ e. n (apart.once j i r q there at e))

    here_bounds : MeetsBounds p q.1.at x
    here_bounds = s.feasible.deviation.bounds q.1.at x is (pair_owned m zeros pairs i q at)

    -- g is within the bounds of the variable
    stands : (g : Ratio) (up : pos 0 <ℤ g.bottom) → IsAbove g x.low → IsBelow g x.high → MeetsBounds (moved p q.1.at g up) q.1.at x
    stands g up low high =
        let t = moved p q.1.at g up in
        let s : SameFraction g (coordinate t q.1.at) = record { left = up; right = t.positive; same = sym (moved_here m p fits_here q.1.at (apart.within i q at) g up) } in
        (same_above g (coordinate t q.1.at) x.low s low, same_below g (coordinate t q.1.at) x.high s high)

    -- one less, and one more
    one_less : AtMostRatio (ratio (cell p.nums q.1.at -ℤ p.den) p.den) (coordinate p q.1.at)
    one_less =
        let e : (cell p.nums q.1.at -ℤ p.den) *ℤ p.den ≡ cell p.nums q.1.at *ℤ p.den -ℤ p.den *ℤ p.den = by_ring (cell p.nums q.1.at ∷ p.den ∷ []) ((var 0 ⊖ var 1) ⊗ var 1) (var 0 ⊗ var 1 ⊖ var 1 ⊗ var 1) refl in
        let s = mul_nonneg p.den p.den (nonneg p.den p.positive) (nonneg p.den p.positive) in
        omega (arith, linear)

    one_more : AtMostRatio (coordinate p q.1.at) (ratio (cell p.nums q.1.at +ℤ p.den) p.den)
    one_more =
        let e : (cell p.nums q.1.at +ℤ p.den) *ℤ p.den ≡ cell p.nums q.1.at *ℤ p.den +ℤ p.den *ℤ p.den = by_ring (cell p.nums q.1.at ∷ p.den ∷ []) ((var 0 ⊕ var 1) ⊗ var 1) (var 0 ⊗ var 1 ⊕ var 1 ⊗ var 1) refl in
        let s = mul_nonneg p.den p.den (nonneg p.den p.positive) (nonneg p.den p.positive) in
        omega (arith, linear)

    falls_by : (end : End) → x.low ≡ end → (IsAt (coordinate p q.1.at) end → ⊥) → f.top ≤ℤ pos 0
    falls_by Open e n =
        let g = ratio (cell p.nums q.1.at -ℤ p.den) p.den in
        let low : IsAbove g x.low = subst (λ end. IsAbove g end) (sym e) tt in
        let up = may_move g p.positive (stands g p.positive low (below_on g (coordinate p q.1.at) x.high p.positive p.positive one_less here_bounds.1)) in
        let s = mul_pos p.den p.den p.positive p.positive in
        let d : (cell p.nums q.1.at -ℤ p.den) *ℤ p.den -ℤ cell p.nums q.1.at *ℤ p.den ≡ neg_ℤ (p.den *ℤ p.den) = by_ring (cell p.nums q.1.at ∷ p.den ∷ []) ((var 0 ⊖ var 1) ⊗ var 1 ⊖ var 0 ⊗ var 1) (neg (var 1 ⊗ var 1)) refl in
        falls f.top ((cell p.nums q.1.at -ℤ p.den) *ℤ p.den -ℤ cell p.nums q.1.at *ℤ p.den) (omega (arith, linear)) up
    falls_by (At h) e n =
        let g = ratio h.num h.den in
        let least : (h.num *ℤ p.den) ≤ℤ (cell p.nums q.1.at *ℤ h.den) = subst (λ end. IsAbove (coordinate p q.1.at) end) e here_bounds.0 in
        let self : IsAbove g (At h) = omega (arith, linear) in
        let low : IsAbove g x.low = subst (λ end. IsAbove g end) (sym e) self in
        let up = may_move g h.positive (stands g h.positive low (below_on g (coordinate p q.1.at) x.high h.positive p.positive least here_bounds.1)) in
        let apart : (cell p.nums q.1.at *ℤ h.den) ≡ (h.num *ℤ p.den) → ⊥ = n in
        falls f.top (h.num *ℤ p.den -ℤ cell p.nums q.1.at *ℤ h.den) (strictly (h.num *ℤ p.den) (cell p.nums q.1.at *ℤ h.den) least (λ z. apart (sym z))) up

    rises_by : (end : End) → x.high ≡ end → (IsAt (coordinate p q.1.at) end → ⊥) → pos 0 ≤ℤ f.top
    rises_by Open e n =
        let g = ratio (cell p.nums q.1.at +ℤ p.den) p.den in
        let high : IsBelow g x.high = subst (λ end. IsBelow g end) (sym e) tt in
        let up = may_move g p.positive (stands g p.positive (above_on (coordinate p q.1.at) g x.low p.positive p.positive one_more here_bounds.0) high) in
        let s = mul_pos p.den p.den p.positive p.positive in
        let d : (cell p.nums q.1.at +ℤ p.den) *ℤ p.den -ℤ cell p.nums q.1.at *ℤ p.den ≡ p.den *ℤ p.den = by_ring (cell p.nums q.1.at ∷ p.den ∷ []) ((var 0 ⊕ var 1) ⊗ var 1 ⊖ var 0 ⊗ var 1) (var 1 ⊗ var 1) refl in
        rises f.top ((cell p.nums q.1.at +ℤ p.den) *ℤ p.den -ℤ cell p.nums q.1.at *ℤ p.den) (omega (arith, linear)) up
    rises_by (At h) e n =
        let g = ratio h.num h.den in
        let most : (cell p.nums q.1.at *ℤ h.den) ≤ℤ (h.num *ℤ p.den) = subst (λ end. IsBelow (coordinate p q.1.at) end) e here_bounds.1 in
        let self : IsBelow g (At h) = omega (arith, linear) in
        let high : IsBelow g x.high = subst (λ end. IsBelow g end) (sym e) self in
        let up = may_move g h.positive (stands g h.positive (above_on (coordinate p q.1.at) g x.low p.positive h.positive most here_bounds.0) high) in
        let apart : (cell p.nums q.1.at *ℤ h.den) ≡ (h.num *ℤ p.den) → ⊥ = n in
        let s = strictly (cell p.nums q.1.at *ℤ h.den) (h.num *ℤ p.den) most apart in
        rises f.top (h.num *ℤ p.den -ℤ cell p.nums q.1.at *ℤ h.den) (omega (arith, linear)) up

  sum_there : IsThere (flow m p (step_to p p) pairs)
  sum_there = at_least_there (flow m p (step_to p p) pairs) (s.best p s.feasible)

  low_of : (i : ℕ) (q : Match) (x : Variable) → slice_get pairs i ≡ Some q → slice_get m.variables q.1.at ≡ Some x → (o : Option Ratio) → gap m p q.0.at ≡ o → IsThere o → (IsAt (coordinate p q.1.at) x.low → ⊥) → IsAtMostZero o
  low_of i q x at is None e there n = there
  low_of i q x at is (Some f) e there n = (to_nought f).1 (falls_by i q x at is f e x.low refl n)

  high_of : (i : ℕ) (q : Match) (x : Variable) → slice_get pairs i ≡ Some q → slice_get m.variables q.1.at ≡ Some x → (o : Option Ratio) → gap m p q.0.at ≡ o → IsThere o → (IsAt (coordinate p q.1.at) x.high → ⊥) → IsAtLeastZero o
  high_of i q x at is None e there n = there
  high_of i q x at is (Some f) e there n = (from_nought f).1 (rises_by i q x at is f e x.high refl n)

  solved_complementary : BlockIsComplementary m zeros pairs p
  solved_complementary = record {
    fits = fits_here;
    bounds = s.feasible.deviation.bounds;
    there = λ i q x at is. flow_there m p (step_to p p) pairs sum_there i q at;
    above_low = λ i q x at is n. low_of i q x at is (gap m p q.0.at) refl (flow_there m p (step_to p p) pairs sum_there i q at) n;
    below_high = λ i q x at is n. high_of i q x at is (gap m p q.0.at) refl (flow_there m p (step_to p p) pairs sum_there i q at) n;
  }

pub sound : (m : Model) (zeros : List VarId) (pairs : List Match) (p : Point) → AreApart m pairs → IsEquilibrium m (vi_file zeros pairs) p → BlockIsComplementary m zeros pairs p
sound m zeros pairs p apart h = solved_complementary m zeros pairs p apart (h.solved 0 (omega arith))

pub blocks_are_complementary : BlocksAreComplementary
blocks_are_complementary = record { sound = sound; lifts = lifts }
