-- Deviations, rivals, solved blocks, multipliers, equilibria and bilevel points do not tell apart two points that are the same.
use Rattle.std.proofs.Common.{◌≡◌, inl, inr, ℕ, ◌+◌, pos, ◌<ℤ◌, Bool, true, false, List, [], ◌∷◌, Option, Some, None, arith, refl, sym, ◌∙◌}
use Rattle.std.specs.Prelude.{slice_get, filter}
use Rattle.std.proofs.lemmas.Int.{ints}
use Rattle.emp_num.specs.Ratio.{Ratio, nought, ratio, plus, minus, times, SameRatio, AtMostRatio}
use Rattle.emp_num.specs.Point.{Point, coordinate}
use Rattle.emp_num.specs.SamePoint.{SamePoint}
use Rattle.emp_num.proofs.SamePoints.{cross_on, same_itself, same_back}
use Rattle.emp_ast.specs.declared.tree.EquId.{EquId}
use Rattle.emp_ast.specs.declared.model.Equation.{Equation}
use Rattle.emp_ast.specs.declared.model.Sense.{Sense}
use Rattle.emp_ast.specs.declared.model.Model.{Model}
use Rattle.emp_ast.specs.declared.annot.Block.{Block}
use Rattle.emp_ast.specs.declared.annot.Block.TheVariants.{Agent, Vi}
use Rattle.emp_ast.specs.declared.annot.Annot.{Annot}
use Rattle.emp_ast.specs.Parties.{Party, leader, block, objective, equations, is_constraint, constraints}
use Rattle.emp_ast.specs.Rivals.{IsGivenFor, IsDeviation, IsRival}
use Rattle.emp_ast.specs.Solved.{IsAtLeastZero, flow, step_to, sides_gap, NoRivalIsBetter, IsSolved}
use Rattle.emp_ast.specs.Multipliers.{AreComplementary, lagrangian, purpose, charge, AreMultipliers}
use Rattle.emp_ast.specs.Equilibrium.{IsEquilibrium}
use Rattle.emp_ast.specs.Bilevel.{IsAdmissible, IsBetterBy, IsBetterForLeader, IsBest, IsAfterSteps, IsRay}
use Rattle.emp_ast.specs.SameLaws.{SameValue, SamePointsAreOne}
use Rattle.emp_ast.proofs.Fractions.{fraction_itself, fraction_plus, fraction_minus, fraction_times, same_same, at_most_same, better_same, sign_none}
use Rattle.emp_ast.proofs.SameValues.{joined_both, if_both, same_value, same_coordinate, same_meets, same_bounds, same_gap, same_flow, same_purpose, AreFractions, same_charge}

-- equal fractions in the place of others
between : (p q r t : Point) (v : ℕ) → SamePoint p q → SamePoint r t → SameRatio (coordinate r v) (coordinate p v) → SameRatio (coordinate t v) (coordinate q v)
between p q r t v h k l = same_same (coordinate r v) (coordinate t v) (coordinate p v) (coordinate q v) (same_coordinate r t k v) (same_coordinate p q h v) l

-- ---- given values
same_given_for : (m : Model) (a : Annot) (k : Party) (o : Option (Sense × ℕ)) (p q : Point) (g : Ratio) → SamePoint p q → IsGivenFor m a k o p g → IsGivenFor m a k o q g
same_given_for m a k None p q g h l = l
same_given_for m a k (Some w) p q g h l = record {
  fraction = l.fraction;
  defined = λ e c at d r here others. l.defined e c at d r here (λ v n. between q p r r v (same_back p q h) (same_itself r) (others v n));
  otherwise = λ none. same_same g g (coordinate p w.1) (coordinate q w.1) (fraction_itself g l.fraction) (same_coordinate p q h w.1) (l.otherwise none);
}

-- ---- deviations and rivals
pub same_deviation : (m : Model) (a : Annot) (k : Party) (p q r t : Point) → SamePoint p q → SamePoint r t → IsDeviation m a k p r → IsDeviation m a k q t
same_deviation m a k p q r t h l d = record {
  fits = sym l.count ∙ d.fits;
  others = λ v within other. between p q r t v h l (d.others v within other);
  bounds = λ v x at own. same_bounds v x r t l (d.bounds v x at own);
  definition = λ e c at defined. same_meets c r t l (d.definition e c at defined);
}

pub same_rival : (m : Model) (a : Annot) (k : Party) (p q r t : Point) → SamePoint p q → SamePoint r t → IsRival m a k p r → IsRival m a k q t
same_rival m a k p q r t h l d = record {
  deviation = same_deviation m a k p q r t h l d.deviation;
  constraints = λ e c at constraint. same_meets c r t l (d.constraints e c at constraint);
}

-- ---- solved
at_least_zero : (x y : Option Ratio) → SameValue x y → IsAtLeastZero x → IsAtLeastZero y
at_least_zero (Some x) (Some y) h l = at_most_same nought nought x y (fraction_itself nought (omega (arith, ints))) h l
at_least_zero (Some x) None h l = h
at_least_zero None y h l = absurd l

none_better : (m : Model) (a : Annot) (k : ℕ) (b : Option Block) (p q : Point) → SamePoint p q → NoRivalIsBetter m a k b p → NoRivalIsBetter m a k b q
none_better m a k (Some (Agent sense w vars equs)) p q h l = λ r rival better.
    l r (same_rival m a (block k) q p r r (same_back p q h) (same_itself r) rival)
    (better_same sense (coordinate r w.at) (coordinate r w.at) (coordinate q w.at) (coordinate p w.at) (same_coordinate r r (same_itself r) w.at) (same_coordinate q p (same_back p q h) w.at) better)
none_better m a k (Some (Vi zeros pairs equs)) p q h l = λ r rival.
    at_least_zero (flow m p (step_to p r) pairs) (flow m q (step_to q r) pairs)
    (same_flow m p q (step_to p r) (step_to q r) pairs h (λ v. fraction_minus (coordinate r v) (coordinate r v) (coordinate p v) (coordinate q v) (same_coordinate r r (same_itself r) v) (same_coordinate p q h v)))
    (l r (same_rival m a (block k) q p r r (same_back p q h) (same_itself r) rival))
none_better m a k None p q h l = l

pub same_solved : (m : Model) (a : Annot) (k : ℕ) (p q : Point) → SamePoint p q → IsSolved m a k p → IsSolved m a k q
same_solved m a k p q h s = record {
  feasible = same_rival m a (block k) p q p q h h s.feasible;
  best = none_better m a k (slice_get a.blocks k) p q h s.best;
}

-- ---- multipliers
complementary : (x y : Option Ratio) (u : Ratio) → SameValue x y → AreComplementary x u → AreComplementary y u
complementary (Some x) (Some y) u h (inl e) = inl (sign_none x.top x.bottom y.top y.bottom h.left h.right h.same e)
complementary (Some x) (Some y) u h (inr e) = inr e
complementary (Some x) None u h l = h
complementary None y u h l = absurd l

fractions_of : (m : Model) (u : ℕ → Ratio) (test : EquId → Bool) (es : List EquId) → ((e : EquId) → test e ≡ true → (c : Equation) → slice_get m.equations e.at ≡ Some c → pos 0 <ℤ (u e.at).bottom) → AreFractions m u (filter test es)
fractions_of m u test [] h = tt
fractions_of m u test (e ∷ es) h = go (test e) refl (fractions_of m u test es h)
  where
    go : (b : Bool) → test e ≡ b → AreFractions m u (filter test es) → AreFractions m u (filter test (e ∷ es))
    go true is rest = rw is (h e is, rest)
    go false is rest = rw is rest

pub same_multipliers : (m : Model) (a : Annot) (k : ℕ) (p q : Point) (u : ℕ → Ratio) → SamePoint p q → AreMultipliers m a k p u → AreMultipliers m a k q u
same_multipliers m a k p q u h l = record {
  among = same_deviation m a (block k) p q p q h h l.among;
  each = λ e c at constraint. let one = l.each e c at constraint in record { fraction = one.fraction; sign = one.sign; complementary = complementary (sides_gap p c) (sides_gap q c) (u e) (same_gap c p q h) one.complementary };
  least = λ r deviation.
      if_both AtMostRatio at_most_same (lagrangian m a k u p p) (lagrangian m a k u q q) (lagrangian m a k u p r) (lagrangian m a k u q r)
      (level p q h) (level r r (same_itself r))
      (l.least r (same_deviation m a (block k) q p r r (same_back p q h) (same_itself r) deviation));
}
  where
    level : (r t : Point) → SamePoint r t → SameValue (lagrangian m a k u p r) (lagrangian m a k u q t)
    level r t d =
        let b = slice_get a.blocks k in
        let es = constraints m a (block k) in
        joined_both (λ x y. Some (minus x y)) fraction_minus (purpose m b p r) (purpose m b q t) (charge m u r es) (charge m u t es)
        (same_purpose m b p q r t h d)
        (same_charge m u r t es d (fractions_of m u (λ e. is_constraint m a (block k) e.at) (equations m a (block k)) (λ e is c at. (l.each e.at c at is).fraction)))

-- ---- equilibria
pub same_equilibrium : (m : Model) (a : Annot) (p q : Point) → SamePoint p q → IsEquilibrium m a p → IsEquilibrium m a q
same_equilibrium m a p q h l = record {
  fits = sym h.count ∙ l.fits;
  solved = λ k within. same_solved m a k p q h (l.solved k within);
  choice = l.choice;
  prices = record {
    multipliers = λ k within priced. same_multipliers m a k p q (l.choice k) h (l.prices.multipliers k within priced);
    duals = λ k i d within at constraint.
        let u = l.choice k d.1.at in
        let x = coordinate p d.0.at in
        let y = coordinate q d.0.at in
        cross_on u.top u.bottom x.top x.bottom y.top y.bottom p.positive (l.prices.duals k i d within at constraint) (h.same d.0.at);
    shared = l.prices.shared;
  };
}

-- ---- bilevel points
pub same_admissible : (m : Model) (a : Annot) (p q : Point) → SamePoint p q → IsAdmissible m a p → IsAdmissible m a q
same_admissible m a p q h l = record { leads = same_rival m a leader p q p q h h l.leads; follows = same_equilibrium m a p q h l.follows }

better_by : (o : Option (Sense × ℕ)) (p q r t : Point) → SamePoint p q → SamePoint r t → IsBetterBy o p r → IsBetterBy o q t
better_by (Some w) p q r t h k l = better_same w.0 (coordinate p w.1) (coordinate q w.1) (coordinate r w.1) (coordinate t w.1) (same_coordinate p q h w.1) (same_coordinate r t k w.1) l
better_by None p q r t h k l = l

pub same_leader : (m : Model) (a : Annot) (p q r t : Point) → SamePoint p q → SamePoint r t → IsBetterForLeader m a p r → IsBetterForLeader m a q t
same_leader m a p q r t h k l = better_by (objective m a leader) p q r t h k l

pub same_best : (m : Model) (a : Annot) (p q : Point) → SamePoint p q → IsBest m a p → IsBest m a q
same_best m a p q h l = record {
  admissible = same_admissible m a p q h l.admissible;
  best = λ r admissible better. l.best r admissible (same_leader m a r r q p (same_itself r) (same_back p q h) better);
}

moved_back : (m : Model) (a : Annot) (p q v w : Point) (t : ℕ) (r : Point) → SamePoint p q → SamePoint v w → IsAfterSteps m a p v t r → IsAfterSteps m a q w t r
moved_back m a p q v w t r h k l = record {
  fits = l.fits;
  moved = λ x within free.
      let step = ratio (pos t) (pos 1) in
      let one = fraction_itself step (omega (arith, ints)) in
      let moves = fraction_times step step (coordinate v x) (coordinate w x) one (same_coordinate v w k x) in
      same_same (coordinate r x) (coordinate r x) (plus (coordinate p x) (times step (coordinate v x))) (plus (coordinate q x) (times step (coordinate w x)))
      (same_coordinate r r (same_itself r) x)
      (fraction_plus (coordinate p x) (coordinate q x) (times step (coordinate v x)) (times step (coordinate w x)) (same_coordinate p q h x) moves)
      (l.moved x within free);
  definitions = l.definitions;
}

pub same_ray : (m : Model) (a : Annot) (p q v w : Point) → SamePoint p q → SamePoint v w → IsRay m a p v → IsRay m a q w
same_ray m a p q v w h k l = record {
  start = same_admissible m a p q h l.start;
  after = λ t. let r = l.after t in (r.0, moved_back m a p q v w t r.0 h k r.1);
  admissible = λ t r steps. l.admissible t r (moved_back m a q p w v t r (same_back p q h) (same_back v w k) steps);
  improves = λ t r s before after. l.improves t r s (moved_back m a q p w v t r (same_back p q h) (same_back v w k) before) (moved_back m a q p w v (t + 1) s (same_back p q h) (same_back v w k) after);
}

-- ---- the law
pub same_points_are_one : SamePointsAreOne
same_points_are_one = record {
  value = same_value;
  equation = same_meets;
  bounds = same_bounds;
  better = λ s v p q r t h k l. better_same s (coordinate p v) (coordinate q v) (coordinate r v) (coordinate t v) (same_coordinate p q h v) (same_coordinate r t k v) l;
  given = λ m a k p q g h l. same_given_for m a k (objective m a k) p q g h l;
  deviation = same_deviation;
  rival = same_rival;
  solved = same_solved;
  multipliers = same_multipliers;
  equilibrium = same_equilibrium;
  admissible = same_admissible;
  better_for_leader = same_leader;
  best = same_best;
  ray = same_ray;
}
