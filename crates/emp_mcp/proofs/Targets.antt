-- A complementarity model and the file in its place have the same points.
use Rattle.std.proofs.Common.{◌≡◌, ◌⊎◌, inl, inr, ℕ, zero, suc, ◌+◌, ◌<◌, ◌≤◌, ℤ, pos, ◌*ℤ◌, Bool, true, false, cond, ◌||◌, not, nat_eq, List, [], ◌∷◌, map, length, Option, Some, None, arith, refl, sym, ap, subst, ◌∙◌}
use Rattle.std.specs.Prelude.{filter, slice_get, slice_index_or, option_map}
use Rattle.std.specs.List.{list_any}
use Rattle.std.proofs.lemmas.Int.{ints}
use Rattle.std.proofs.lemmas.Bool.{eq-eqb, ne_eqb, eqb-true, lt-ltb, cases_eq}
use Rattle.std.proofs.lemmas.Option.{same_Some, slice_get_within, slice_get-map}
use Rattle.std.proofs.lemmas.List.{get_or_past, length-map}
use Rattle.std.proofs.lemmas.List.Folds.{list_any-append}
use Rattle.emp_algebra.specs.Vector.{cell}
use Rattle.emp_num.specs.Ratio.{Ratio, ratio, SameRatio}
use Rattle.emp_num.specs.Point.{Point, coordinate}
use Rattle.emp_ast.specs.declared.model.Equation.{Equation}
use Rattle.emp_ast.specs.declared.model.End.{End}
use Rattle.emp_ast.specs.declared.model.End.TheVariants.{Open, At}
use Rattle.emp_ast.specs.declared.model.Variable.{Variable}
use Rattle.emp_ast.specs.declared.model.Model.{Model}
use Rattle.emp_ast.specs.Occurrence.{equation_leaves}
use Rattle.emp_ast.specs.Meets.{MeetsBounds}
use Rattle.emp_ast.specs.Parties.{block, owns, names_variable}
use Rattle.emp_ast.specs.Rivals.{Fits}
use Rattle.emp_ast.specs.Solved.{sides_gap, gap_by, gap, IsAtLeastZero}
use Rattle.emp_ast.specs.Equilibrium.{IsEquilibrium}
use Rattle.emp_ast.specs.SameLaws.{SameFraction, SameValue}
use Rattle.emp_owner.proofs.Lists.{any_map}
use Rattle.emp_ast.proofs.Fractions.{fraction_itself, fraction_back, same_same, sign_from, sign_to, from_nought, to_nought}
use Rattle.emp_mcp.specs.Complementary.{Match, is_matched, is_matched_equation, is_leaf_by, is_of_problem, IsAt, IsAtMostZero, IsThere, IsComplementary}
use Rattle.emp_mcp.specs.Block.{AreApart, BlockIsComplementary}
use Rattle.emp_mcp.specs.Target.{problem_variables, problem_equations, place_in, IsEquationOver, AreEquationsOver, no_variable, unmatched, pair_over, matched_pairs, target_annot, IsTarget, AreMatches, Shows}
use Rattle.emp_mcp.specs.Laws.{TargetsKeepPoints}
use Rattle.emp_mcp.proofs.Blocks as Blocks
use Rattle.emp_mcp.proofs.Blocks.{any_at, same_above, same_below}
use Rattle.emp_mcp.proofs.Renaming.{gap_over}
use Rattle.emp_mcp.proofs.Places.{kept_found, kept_at, has_get, or_right, any_filter, any_implies}

-- ---- signs of values that are the same
there_same : (o r : Option Ratio) → SameValue o r → IsThere o → IsThere r
there_same (Some x) (Some y) s h = tt
there_same (Some x) None s h = s
there_same None r s h = absurd h

most_same : (o r : Option Ratio) → SameValue o r → IsAtMostZero o → IsAtMostZero r
most_same (Some x) (Some y) s h = (to_nought y).1 (sign_to x.top x.bottom y.top y.bottom s.left s.right s.same ((to_nought x).0 h))
most_same (Some x) None s h = s
most_same None r s h = absurd h

least_same : (o r : Option Ratio) → SameValue o r → IsAtLeastZero o → IsAtLeastZero r
least_same (Some x) (Some y) s h = (from_nought y).1 (sign_from x.top x.bottom y.top y.bottom s.left s.right s.same ((from_nought x).0 h))
least_same (Some x) None s h = s
least_same None r s h = absurd h

value_back : (o r : Option Ratio) → SameValue o r → SameValue r o
value_back (Some x) (Some y) s = fraction_back x y s
value_back (Some x) None s = s
value_back None (Some y) s = s
value_back None None s = s

at_same : (x y : Ratio) (end : End) → SameFraction x y → IsAt x end → IsAt y end
at_same x y Open s h = h
at_same x y (At f) s h = same_same x y (ratio f.num f.den) (ratio f.num f.den) s (fraction_itself (ratio f.num f.den) f.positive) h

-- ---- what stands in the target
mapped_get : {A B : Type 0} (f : A → B) (xs : List A) (k : ℕ) (y : B) → slice_get (map f xs) k ≡ Some y → (x : A) × (slice_get xs k ≡ Some x) × (f x ≡ y)
mapped_get f [] k y h = cc
mapped_get f (x ∷ xs) zero y h = (x, refl, same_Some (f x) y h)
mapped_get f (x ∷ xs) (suc k) y h = mapped_get f xs k y h

get_or_is : {X : Type 0} (xs : List X) (k : ℕ) (d x : X) → slice_get xs k ≡ Some x → slice_index_or xs k d ≡ x
get_or_is [] k d x h = cc
get_or_is (y ∷ xs) zero d x h = same_Some y x h
get_or_is (y ∷ xs) (suc k) d x h = get_or_is xs k d x h

over_at : (m : Model) (vs es : List ℕ) (rs : List Equation) (k e : ℕ) (q : Equation) → AreEquationsOver m vs es rs → slice_get es k ≡ Some e → slice_get m.equations e ≡ Some q → (r : Equation) × (slice_get rs k ≡ Some r) × IsEquationOver vs q r
over_at m vs [] rs k e q h at is = cc
over_at m vs (f ∷ es) [] k e q h at is = absurd h
over_at m vs (f ∷ es) (r ∷ rs) zero e q h at is = (r, refl, h.0 q (ap (slice_get m.equations) (same_Some f e at) ∙ is))
over_at m vs (f ∷ es) (r ∷ rs) (suc k) e q h at is = over_at m vs es rs k e q h.1 at is

module _ (m : Model) (ms : List Match) (t : Model) (h : AreMatches m ms) (is : IsTarget m ms t) where
  abbrev vs : List ℕ
  vs = problem_variables m ms

  abbrev es : List ℕ
  es = problem_equations m ms

  -- a variable of the problem stands at its place, and so does a matched equation
  variable_place : (v : ℕ) → v < length m.variables → is_of_problem m ms v ≡ true → slice_get vs (place_in vs v) ≡ Some v
  variable_place v l o = kept_found (is_of_problem m ms) 0 m.variables v (omega arith) (omega arith) o

  matched_is : (i : ℕ) (q : Match) → slice_get ms i ≡ Some q → is_matched ms q.1.at ≡ true
  matched_is i q at = any_at (λ r. nat_eq r.1.at q.1.at) ms i q at (eq-eqb q.1.at q.1.at refl)

  pub matched_of : (i : ℕ) (q : Match) → slice_get ms i ≡ Some q → is_of_problem m ms q.1.at ≡ true
  matched_of i q at = ap (λ b. b || list_any (λ r. is_leaf_by q.1.at (slice_get m.equations r.0.at)) ms) (matched_is i q at)

  equation_place : (i : ℕ) (q : Match) → slice_get ms i ≡ Some q → slice_get es (place_in es q.0.at) ≡ Some q.0.at
  equation_place i q at = let l = h.equations i q at in kept_found (is_matched_equation ms) 0 m.equations q.0.at (omega arith) (omega (arith, l)) (any_at (λ r. nat_eq r.0.at q.0.at) ms i q at (eq-eqb q.0.at q.0.at refl))

  variable_over : (v : ℕ) (x : Variable) → slice_get m.variables v ≡ Some x → is_of_problem m ms v ≡ true → slice_get t.variables (place_in vs v) ≡ Some x
  variable_over v x here o =
      ap (λ xs. slice_get xs (place_in vs v)) is.variables
      ∙ (slice_get-map (λ u. slice_index_or m.variables u no_variable) vs (place_in vs v) ∙ ap (option_map (λ u. slice_index_or m.variables u no_variable)) (variable_place v (slice_get_within m.variables v x here) o)
      ∙ ap Some (get_or_is m.variables v no_variable x here))

  -- and all that stand there are variables of the problem
  record Source (k : ℕ) (x : Variable) : Type 0 where
    number : ℕ
    at : slice_get vs k ≡ Some number
    variable : slice_get m.variables number ≡ Some x
    of : is_of_problem m ms number ≡ true
    place : place_in vs number ≡ k

  source : (k : ℕ) (x : Variable) → slice_get t.variables k ≡ Some x → Source k x
  source k x here =
      let g = mapped_get (λ u. slice_index_or m.variables u no_variable) vs k x (ap (λ xs. slice_get xs k) (sym is.variables) ∙ here) in
      let kept = kept_at (is_of_problem m ms) 0 m.variables k g.0 g.1 in
      let l = kept.to in
      let y = has_get m.variables g.0 (omega (arith, l)) in
      let same : y.0 ≡ x = sym (get_or_is m.variables g.0 no_variable y.0 y.1) ∙ g.2 in
      record { number = g.0; at = g.1; variable = y.1 ∙ ap Some same; of = kept.passes; place = kept.place }

  -- ---- own variables of the block
  owned : (k v : ℕ) → slice_get vs k ≡ Some v → place_in vs v ≡ k → owns t (target_annot m ms) (block 0) k ≡ true
  owned k v at place = list_any-append (λ u. nat_eq u.at k) (unmatched m ms) (map (λ q. q.1) (matched_pairs m ms)) ∙ go (is_matched ms v) refl
    where
      go : (b : Bool) → is_matched ms v ≡ b → (names_variable (unmatched m ms) k || names_variable (map (λ q. q.1) (matched_pairs m ms)) k) ≡ true
      go true e =
          or_right (names_variable (unmatched m ms) k) (names_variable (map (λ q. q.1) (matched_pairs m ms)) k)
          (any_map (λ u. nat_eq u.at k) (λ q. q.1) (matched_pairs m ms)
          ∙ (any_map (λ q. nat_eq q.1.at k) (pair_over es vs) ms
          ∙ any_implies (λ q. nat_eq q.1.at v) (λ q. nat_eq (place_in vs q.1.at) k) ms (λ q f. eq-eqb (place_in vs q.1.at) k (ap (place_in vs) (eqb-true q.1.at v f) ∙ place)) e))
      go false e =
          ap (λ b. b || names_variable (map (λ q. q.1) (matched_pairs m ms)) k)
          (any_map (λ u. nat_eq u.at k) (λ u. record { at = place_in vs u }) (filter (λ u. not (is_matched ms u)) vs)
          ∙ any_filter (λ u. nat_eq (place_in vs u) k) (λ u. not (is_matched ms u)) vs k v at (ap not e) (eq-eqb (place_in vs v) k place))

  same_place : (v w : ℕ) → slice_get vs (place_in vs v) ≡ Some v → slice_get vs (place_in vs w) ≡ Some w → place_in vs v ≡ place_in vs w → v ≡ w
  same_place v w f g e = same_Some v w (sym f ∙ (ap (slice_get vs) e ∙ g))

  found : (i : ℕ) (q : Match) → slice_get ms i ≡ Some q → slice_get vs (place_in vs q.1.at) ≡ Some q.1.at
  found i q at = variable_place q.1.at (h.variables i q at) (matched_of i q at)

  apart : AreApart t (matched_pairs m ms)
  apart = record { within = within; once = once }
    where
      within : (i : ℕ) (q : Match) → slice_get (matched_pairs m ms) i ≡ Some q → q.1.at < length t.variables
      within i q at =
          let g = mapped_get (pair_over es vs) ms i q at in
          let l : place_in vs g.0.1.at < length vs = slice_get_within vs (place_in vs g.0.1.at) g.0.1.at (found i g.0 g.1) in
          let n : length t.variables ≡ length vs = ap length is.variables ∙ length-map vs (λ u. slice_index_or m.variables u no_variable) in
          let e : q.1.at ≡ place_in vs g.0.1.at = ap (λ r. r.1.at) (sym g.2) in
          omega (arith, l, n, e)

      once : (i j : ℕ) (q r : Match) → slice_get (matched_pairs m ms) i ≡ Some q → slice_get (matched_pairs m ms) j ≡ Some r → q.1.at ≡ r.1.at → i ≡ j
      once i j q r at there e =
          let f = mapped_get (pair_over es vs) ms i q at in
          let g = mapped_get (pair_over es vs) ms j r there in
          h.variable_once i j f.0 g.0 f.1 g.1 (same_place f.0.1.at g.0.1.at (found i f.0 f.1) (found j g.0 g.1) (ap (λ z. z.1.at) f.2 ∙ (e ∙ ap (λ z. z.1.at) (sym g.2))))

  record Got (i : ℕ) (c : Match) (x : Variable) : Type 0 where
    match : Match
    at : slice_get ms i ≡ Some match
    same : pair_over es vs match ≡ c
    variable : slice_get m.variables match.1.at ≡ Some x

  -- ---- points
  module _ (p q : Point) (s : Shows m ms p q) where
    -- also where no variable has the number
    same_at : (v : ℕ) → is_of_problem m ms v ≡ true → SameRatio (coordinate q v) (coordinate p (place_in vs v))
    same_at v o = go (split v (length m.variables))
      where
        split : (a b : ℕ) → (a < b) ⊎ (b ≤ a)
        split a b = grind arith

        behind : (us : List ℕ) (w : ℕ) → ((k : ℕ) → slice_get us k ≡ Some w → ⊥) → place_in us w ≡ length us
        behind [] w n = refl
        behind (u ∷ us) w n = step (cases_eq u w) (behind us w (λ k g. n (suc k) g))
          where
            step : (u ≡ w) ⊎ (u ≡ w → ⊥) → place_in us w ≡ length us → place_in (u ∷ us) w ≡ suc (length us)
            step (inl e) k = absurd (n 0 (ap Some e))
            step (inr e) k = ap (λ c. cond c 0 (suc (place_in us w))) (ne_eqb u w e) ∙ ap suc k

        zeros : (a b : ℤ) → pos 0 *ℤ a ≡ pos 0 *ℤ b
        zeros a b = omega (arith, ints)

        go : (v < length m.variables) ⊎ (length m.variables ≤ v) → SameRatio (coordinate q v) (coordinate p (place_in vs v))
        go (inl l) = s.same v l o
        go (inr l) =
            let none : (k : ℕ) → slice_get vs k ≡ Some v → ⊥ = λ k g. let z = (kept_at (is_of_problem m ms) 0 m.variables k v g).to in omega (arith, z, l) in
            let far : length p.nums ≤ place_in vs v = let e = behind vs v none in let c = s.count in omega (arith, e, c) in
            let out : length q.nums ≤ v = let f = s.fits in omega (arith, f, l) in
            ap (λ z. z *ℤ p.den) (get_or_past q.nums v (pos 0) out) ∙ (zeros p.den q.den ∙ ap (λ z. z *ℤ q.den) (sym (get_or_past p.nums (place_in vs v) (pos 0) far)))

    fraction_at : (v : ℕ) → is_of_problem m ms v ≡ true → SameFraction (coordinate q v) (coordinate p (place_in vs v))
    fraction_at v o = record { left = q.positive; right = p.positive; same = same_at v o }

    -- the functions of matches are those of pairs
    gap_same : (i : ℕ) (c : Match) → slice_get ms i ≡ Some c → SameValue (gap m q c.0.at) (gap t p (place_in es c.0.at))
    gap_same i c at =
        let e = has_get m.equations c.0.at (h.equations i c at) in
        let r = over_at m vs es t.equations (place_in es c.0.at) c.0.at e.0 is.equations (equation_place i c at) e.1 in
        subst (λ o. SameValue (gap_by q o) (gap t p (place_in es c.0.at))) (sym e.1) (subst (λ o. SameValue (sides_gap q e.0) (gap_by p o)) (sym r.1) (gap_over vs e.0 r.0 p q r.2 (λ v l. same_at v (leaf i c at e.0 e.1 v l))))
      where
        leaf : (i : ℕ) (c : Match) → slice_get ms i ≡ Some c → (e : Equation) → slice_get m.equations c.0.at ≡ Some e → (v : ℕ) → 1 ≤ equation_leaves v e → is_of_problem m ms v ≡ true
        leaf i c at e there v l =
            or_right (is_matched ms v) (list_any (λ r. is_leaf_by v (slice_get m.equations r.0.at)) ms)
            (any_at (λ r. is_leaf_by v (slice_get m.equations r.0.at)) ms i c at (ap (is_leaf_by v) there ∙ lt-ltb 0 (equation_leaves v e) (omega (arith, l))))

    complementary_of : BlockIsComplementary t (unmatched m ms) (matched_pairs m ms) p → IsComplementary m ms q
    complementary_of k = record {
      fits = s.fits;
      bounds = bounds;
      there = λ i c x at here. there_same (gap t p (place_in es c.0.at)) (gap m q c.0.at) (back i c at) (k.there i (pair_over es vs c) x (over i c at) (variable_over c.1.at x here (matched_of i c at)));
      above_low = λ i c x at here n. most_same (gap t p (place_in es c.0.at)) (gap m q c.0.at) (back i c at) (k.above_low i (pair_over es vs c) x (over i c at) (variable_over c.1.at x here (matched_of i c at)) (λ a. n (at_same (coordinate p (place_in vs c.1.at)) (coordinate q c.1.at) x.low (turned i c at) a)));
      below_high = λ i c x at here n. least_same (gap t p (place_in es c.0.at)) (gap m q c.0.at) (back i c at) (k.below_high i (pair_over es vs c) x (over i c at) (variable_over c.1.at x here (matched_of i c at)) (λ a. n (at_same (coordinate p (place_in vs c.1.at)) (coordinate q c.1.at) x.high (turned i c at) a)));
    }
      where
        back : (i : ℕ) (c : Match) → slice_get ms i ≡ Some c → SameValue (gap t p (place_in es c.0.at)) (gap m q c.0.at)
        back i c at = value_back (gap m q c.0.at) (gap t p (place_in es c.0.at)) (gap_same i c at)

        over : (i : ℕ) (c : Match) → slice_get ms i ≡ Some c → slice_get (matched_pairs m ms) i ≡ Some (pair_over es vs c)
        over i c at = slice_get-map (pair_over es vs) ms i ∙ ap (option_map (pair_over es vs)) at

        turned : (i : ℕ) (c : Match) → slice_get ms i ≡ Some c → SameFraction (coordinate p (place_in vs c.1.at)) (coordinate q c.1.at)
        turned i c at = fraction_back (coordinate q c.1.at) (coordinate p (place_in vs c.1.at)) (fraction_at c.1.at (matched_of i c at))

        bounds : (v : ℕ) (x : Variable) → slice_get m.variables v ≡ Some x → is_of_problem m ms v ≡ true → MeetsBounds q v x
        bounds v x here o =
            let place = variable_place v (slice_get_within m.variables v x here) o in
            let b = k.bounds (place_in vs v) x (variable_over v x here o) (owned (place_in vs v) v place refl) in
            let f = fraction_back (coordinate q v) (coordinate p (place_in vs v)) (fraction_at v o) in
            (same_above (coordinate p (place_in vs v)) (coordinate q v) x.low f b.0, same_below (coordinate p (place_in vs v)) (coordinate q v) x.high f b.1)

    block_of : IsComplementary m ms q → BlockIsComplementary t (unmatched m ms) (matched_pairs m ms) p
    block_of k = record {
      fits = s.count ∙ sym (ap length is.variables ∙ length-map vs (λ u. slice_index_or m.variables u no_variable));
      bounds = λ u x here o. bounds u x here;
      there = λ i c x at here. let g = got i c x at here in subst (λ z. IsThere (gap t p z.0.at)) g.same (there_same (gap m q g.match.0.at) (gap t p (place_in es g.match.0.at)) (gap_same i g.match g.at) (k.there i g.match x g.at g.variable));
      above_low = λ i c x at here n.
          let g = got i c x at here in
          subst (λ z. IsAtMostZero (gap t p z.0.at)) g.same (most_same (gap m q g.match.0.at) (gap t p (place_in es g.match.0.at)) (gap_same i g.match g.at) (k.above_low i g.match x g.at g.variable (λ a. n (subst (λ z. IsAt (coordinate p z.1.at) x.low) g.same (at_same (coordinate q g.match.1.at) (coordinate p (place_in vs g.match.1.at)) x.low (fraction_at g.match.1.at (matched_of i g.match g.at)) a)))));
      below_high = λ i c x at here n.
          let g = got i c x at here in
          subst (λ z. IsAtLeastZero (gap t p z.0.at)) g.same (least_same (gap m q g.match.0.at) (gap t p (place_in es g.match.0.at)) (gap_same i g.match g.at) (k.below_high i g.match x g.at g.variable (λ a. n (subst (λ z. IsAt (coordinate p z.1.at) x.high) g.same (at_same (coordinate q g.match.1.at) (coordinate p (place_in vs g.match.1.at)) x.high (fraction_at g.match.1.at (matched_of i g.match g.at)) a)))));
    }
      where
        bounds : (u : ℕ) (x : Variable) → slice_get t.variables u ≡ Some x → MeetsBounds p u x
        bounds u x here =
            let o = source u x here in
            let b = k.bounds o.number x o.variable o.of in
            let f = fraction_at o.number o.of in
            subst (λ z. MeetsBounds p z x) o.place (same_above (coordinate q o.number) (coordinate p (place_in vs o.number)) x.low f b.0, same_below (coordinate q o.number) (coordinate p (place_in vs o.number)) x.high f b.1)

        got : (i : ℕ) (c : Match) (x : Variable) → slice_get (matched_pairs m ms) i ≡ Some c → slice_get t.variables c.1.at ≡ Some x → Got i c x
        got i c x at here =
            let g = mapped_get (pair_over es vs) ms i c at in
            let y = has_get m.variables g.0.1.at (h.variables i g.0 g.1) in
            let over : slice_get t.variables (place_in vs g.0.1.at) ≡ Some y.0 = variable_over g.0.1.at y.0 y.1 (matched_of i g.0 g.1) in
            let same : y.0 ≡ x = same_Some y.0 x (sym over ∙ (ap (λ z. slice_get t.variables z.1.at) g.2 ∙ here)) in
            record { match = g.0; at = g.1; same = g.2; variable = y.1 ∙ ap Some same }

-- ---- the laws
pub sound : (m : Model) (ms : List Match) (t : Model) (p q : Point) → AreMatches m ms → IsTarget m ms t → Shows m ms p q → IsEquilibrium t (target_annot m ms) p → IsComplementary m ms q
sound m ms t p q h is s e = complementary_of m ms t h is p q s (Blocks.sound t (unmatched m ms) (matched_pairs m ms) p (apart m ms t h is) e)

pub lifts : (m : Model) (ms : List Match) (t : Model) (p q : Point) → AreMatches m ms → IsTarget m ms t → Shows m ms p q → IsComplementary m ms q → IsEquilibrium t (target_annot m ms) p
lifts m ms t p q h is s e = Blocks.lifts t (unmatched m ms) (matched_pairs m ms) p (apart m ms t h is) (block_of m ms t h is p q s e)

-- the coordinates of the problem's variables; and the other way round, with 0 for the others
module _ (m : Model) (ms : List Match) where
  gathered : Point → Point
  gathered q = record { den = q.den; nums = map (λ v. cell q.nums v) (problem_variables m ms); positive = q.positive }

  pub shown : (q : Point) → Fits m q → (p : Point) × Shows m ms p q
  unfolding gathered
  shown q f = (
    gathered q,
    record {
      count = length-map (problem_variables m ms) (λ v. cell q.nums v);
      fits = f;
      same = λ v l o. ap (λ z. z *ℤ q.den) (sym (here v l o));
    },
  )
    where
      here : (v : ℕ) → v < length m.variables → is_of_problem m ms v ≡ true → cell (map (λ u. cell q.nums u) (problem_variables m ms)) (place_in (problem_variables m ms) v) ≡ cell q.nums v
      here v l o =
          get_or_is (map (λ u. cell q.nums u) (problem_variables m ms)) (place_in (problem_variables m ms) v) (pos 0) (cell q.nums v)
          (slice_get-map (λ u. cell q.nums u) (problem_variables m ms) (place_in (problem_variables m ms) v) ∙ ap (option_map (λ u. cell q.nums u)) (kept_found (is_of_problem m ms) 0 m.variables v (omega arith) (omega (arith, l)) o))

spread_from : {X : Type 0} → (ℕ → ℤ) → ℕ → List X → List ℤ
spread_from f at [] = []
spread_from f at (x ∷ xs) = f at ∷ spread_from f (at + 1) xs

spread_length : {X : Type 0} (f : ℕ → ℤ) (at : ℕ) (xs : List X) → length (spread_from f at xs) ≡ length xs
unfolding spread_from
spread_length f at [] = refl
spread_length f at (x ∷ xs) = ap suc (spread_length f (at + 1) xs)

spread_cell : {X : Type 0} (f : ℕ → ℤ) (at : ℕ) (xs : List X) (k : ℕ) → k < length xs → cell (spread_from f at xs) k ≡ f (at + k)
unfolding spread_from
spread_cell f at [] k l = absurd (omega arith)
spread_cell f at (x ∷ xs) zero l = let e : at ≡ at + 0 = omega arith in ap f e
spread_cell f at (x ∷ xs) (suc k) l = spread_cell f (at + 1) xs k (omega arith) ∙ (let e : at + 1 + k ≡ at + suc k = omega arith in ap f e)

pub showing : (m : Model) (ms : List Match) (p : Point) → length p.nums ≡ length (problem_variables m ms) → (q : Point) × Shows m ms p q
showing m ms p c = (
  record { den = p.den; nums = spread_from (λ v. cell p.nums (place_in (problem_variables m ms) v)) 0 m.variables; positive = p.positive },
  record {
    count = c;
    fits = spread_length (λ v. cell p.nums (place_in (problem_variables m ms) v)) 0 m.variables;
    same = λ v l o. ap (λ z. z *ℤ p.den) (spread_cell (λ v. cell p.nums (place_in (problem_variables m ms) v)) 0 m.variables v l ∙ (let e : 0 + v ≡ v = omega arith in ap (λ v. cell p.nums (place_in (problem_variables m ms) v)) e));
  },
)

pub targets_keep_points : TargetsKeepPoints
targets_keep_points = record { sound = sound; lifts = lifts; shown = shown; showing = showing }
