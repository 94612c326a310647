-- Two points that are the same give the same values, and meet the same equations and bounds.
use Rattle.std.proofs.Common.{◌≡◌, ℕ, ◌≤◌, pos, ◌<ℤ◌, Bool, cond, List, [], ◌∷◌, Option, Some, None, arith, refl, sym, subst}
use Rattle.std.specs.Prelude.{slice_get, option_map}
use Rattle.std.proofs.lemmas.Int.{ints}
use Rattle.std.proofs.lemmas.Bool.{eq-eqb}
use Rattle.emp_num.specs.Ratio.{Ratio, ratio, negated as opposite, plus, minus, times, power as power_of, SameRatio, AtMostRatio}
use Rattle.emp_num.specs.Point.{Point, coordinate}
use Rattle.emp_num.specs.SamePoint.{SamePoint}
use Rattle.emp_ast.specs.declared.tree.VarId.{VarId}
use Rattle.emp_ast.specs.declared.tree.EquId.{EquId}
use Rattle.emp_ast.specs.declared.model.Relation.{Relation}
use Rattle.emp_ast.specs.declared.model.Relation.TheVariants.{Equal, AtLeast, AtMost, Nothing}
use Rattle.emp_ast.specs.declared.model.Sense.TheVariants.{Min, Max}
use Rattle.emp_ast.specs.declared.model.Equation.{Equation}
use Rattle.emp_ast.specs.declared.model.End.{End}
use Rattle.emp_ast.specs.declared.model.End.TheVariants.{Open, At}
use Rattle.emp_ast.specs.declared.model.Variable.{Variable}
use Rattle.emp_ast.specs.declared.model.Model.{Model}
use Rattle.emp_ast.specs.declared.annot.Block.{Block}
use Rattle.emp_ast.specs.declared.annot.Block.TheVariants.{Agent, Vi}
use Rattle.emp_ast.specs.Expression.{Expression, number, variable, negated, joined, power, expression_of}
use Rattle.emp_ast.specs.Occurrence.{leaves}
use Rattle.emp_ast.specs.Value.{value, both, operation, tree_value}
use Rattle.emp_ast.specs.Meets.{IfBoth, AreRelated, MeetsEquation, IsAbove, IsBelow, MeetsBounds}
use Rattle.emp_ast.specs.Solved.{sides_gap, gap_by, gap, flow}
use Rattle.emp_ast.specs.Multipliers.{purpose, charge}
use Rattle.emp_ast.specs.SameLaws.{SameFraction, SameValue}
use Rattle.emp_ast.proofs.Fractions.{fraction_itself, fraction_negated, fraction_plus, fraction_minus, fraction_times, fraction_power, operation_same, at_most_same, same_same}

-- ---- values that may be missing
mapped : (f : Ratio → Ratio) → ((x y : Ratio) → SameFraction x y → SameFraction (f x) (f y)) → (x y : Option Ratio) → SameValue x y → SameValue (option_map f x) (option_map f y)
mapped f keeps (Some x) (Some y) h = keeps x y h
mapped f keeps (Some x) None h = h
mapped f keeps None (Some y) h = h
mapped f keeps None None h = h

pub joined_both : (f : Ratio → Ratio → Option Ratio) → ((x y z w : Ratio) → SameFraction x y → SameFraction z w → SameValue (f x z) (f y w)) → (x y z w : Option Ratio) → SameValue x y → SameValue z w → SameValue (both f x z) (both f y w)
joined_both f keeps (Some x) (Some y) (Some z) (Some w) h k = keeps x y z w h k
joined_both f keeps (Some x) (Some y) (Some z) None h k = absurd k
joined_both f keeps (Some x) (Some y) None (Some w) h k = absurd k
joined_both f keeps (Some x) (Some y) None None h k = k
joined_both f keeps (Some x) None z w h k = absurd h
joined_both f keeps None (Some y) z w h k = absurd h
joined_both f keeps None None z w h k = h

pub if_both : (R : Ratio → Ratio → Type 0) → ((x y z w : Ratio) → SameFraction x y → SameFraction z w → R x z → R y w) → (x y z w : Option Ratio) → SameValue x y → SameValue z w → IfBoth R x z → IfBoth R y w
if_both R keeps (Some x) (Some y) (Some z) (Some w) h k l = keeps x y z w h k l
if_both R keeps (Some x) (Some y) (Some z) None h k l = k
if_both R keeps (Some x) (Some y) None w h k l = absurd l
if_both R keeps (Some x) None z w h k l = absurd h
if_both R keeps None y z w h k l = absurd l

-- ---- values of expressions
is_leaf : (k : ℕ) → 1 ≤ leaves k (variable k)
is_leaf k = subst (λ (b : Bool). 1 ≤ cond b 1 0) (sym (eq-eqb k k refl)) (omega arith)

-- where the coordinates of its leaves are equal, an expression has the same value
pub same_leaves : (e : Expression) (p q : Point) → ((v : ℕ) → 1 ≤ leaves v e → SameRatio (coordinate p v) (coordinate q v)) → SameValue (value p e) (value q e)
same_leaves (number f) p q h = fraction_itself (ratio f.num f.den) f.positive
same_leaves (variable k) p q h = record { left = p.positive; right = q.positive; same = h k (is_leaf k) }
same_leaves (negated e) p q h = mapped opposite fraction_negated (value p e) (value q e) (same_leaves e p q h)
same_leaves (joined op e f) p q h =
    joined_both (operation op) (operation_same op) (value p e) (value q e) (value p f) (value q f)
    (same_leaves e p q (λ v l. h v (omega arith)))
    (same_leaves f p q (λ v l. h v (omega arith)))
same_leaves (power e n) p q h = mapped (λ x. power_of x n) (fraction_power n) (value p e) (value q e) (same_leaves e p q h)

pub same_value : (e : Expression) (p q : Point) → SamePoint p q → SameValue (value p e) (value q e)
same_value e p q h = same_leaves e p q (λ v l. h.same v)

pub same_coordinate : (p q : Point) → SamePoint p q → (v : ℕ) → SameFraction (coordinate p v) (coordinate q v)
same_coordinate p q h v = record { left = p.positive; right = q.positive; same = h.same v }

-- ---- equations and bounds
pub related : (r : Relation) (x y z w : Option Ratio) → SameValue x y → SameValue z w → AreRelated r x z → AreRelated r y w
related Equal x y z w h k l = if_both SameRatio same_same x y z w h k l
related AtLeast x y z w h k l = if_both AtMostRatio at_most_same z w x y k h l
related AtMost x y z w h k l = if_both AtMostRatio at_most_same x y z w h k l
related Nothing x y z w h k l = l

pub same_meets : (e : Equation) (p q : Point) → SamePoint p q → MeetsEquation p e → MeetsEquation q e
same_meets e p q h l = related e.relation (tree_value p e.left) (tree_value q e.left) (tree_value p e.right) (tree_value q e.right) (same_value (expression_of e.left.nodes) p q h) (same_value (expression_of e.right.nodes) p q h) l

above : (x y : Ratio) (end : End) → SameFraction x y → IsAbove x end → IsAbove y end
above x y Open h l = l
above x y (At f) h l = at_most_same (ratio f.num f.den) (ratio f.num f.den) x y (fraction_itself (ratio f.num f.den) f.positive) h l

below : (x y : Ratio) (end : End) → SameFraction x y → IsBelow x end → IsBelow y end
below x y Open h l = l
below x y (At f) h l = at_most_same x y (ratio f.num f.den) (ratio f.num f.den) h (fraction_itself (ratio f.num f.den) f.positive) l

pub same_bounds : (k : ℕ) (x : Variable) (p q : Point) → SamePoint p q → MeetsBounds p k x → MeetsBounds q k x
same_bounds k x p q h l = let c = same_coordinate p q h k in (above (coordinate p k) (coordinate q k) x.low c l.0, below (coordinate p k) (coordinate q k) x.high c l.1)

-- ---- the functions of pairs, the purpose of a block, and what its multipliers charge
pub same_gap : (e : Equation) (p q : Point) → SamePoint p q → SameValue (sides_gap p e) (sides_gap q e)
same_gap e p q h = joined_both (λ x y. Some (minus x y)) fraction_minus (tree_value p e.left) (tree_value q e.left) (tree_value p e.right) (tree_value q e.right) (same_value (expression_of e.left.nodes) p q h) (same_value (expression_of e.right.nodes) p q h)

same_gap_by : (e : Option Equation) (p q : Point) → SamePoint p q → SameValue (gap_by p e) (gap_by q e)
same_gap_by (Some e) p q h = same_gap e p q h
same_gap_by None p q h = tt

zero_itself : SameFraction (ratio (pos 0) (pos 1)) (ratio (pos 0) (pos 1))
zero_itself = fraction_itself (ratio (pos 0) (pos 1)) (omega (arith, ints))

pub same_flow : (m : Model) (p q : Point) (w x : ℕ → Ratio) (pairs : List (EquId × VarId)) → SamePoint p q → ((v : ℕ) → SameFraction (w v) (x v)) → SameValue (flow m p w pairs) (flow m q x pairs)
same_flow m p q w x [] h k = zero_itself
same_flow m p q w x (c ∷ pairs) h k =
    joined_both (λ y z. Some (plus y z)) fraction_plus
    (option_map (λ f. times f (w c.1.at)) (gap m p c.0.at)) (option_map (λ f. times f (x c.1.at)) (gap m q c.0.at)) (flow m p w pairs) (flow m q x pairs)
    (weighed (gap m p c.0.at) (gap m q c.0.at) (same_gap_by (slice_get m.equations c.0.at) p q h))
    (same_flow m p q w x pairs h k)
  where
    weighed : (y z : Option Ratio) → SameValue y z → SameValue (option_map (λ f. times f (w c.1.at)) y) (option_map (λ f. times f (x c.1.at)) z)
    weighed (Some y) (Some z) l = fraction_times y z (w c.1.at) (x c.1.at) l (k c.1.at)
    weighed (Some y) None l = l
    weighed None (Some z) l = l
    weighed None None l = l

pub same_purpose : (m : Model) (b : Option Block) (p q r t : Point) → SamePoint p q → SamePoint r t → SameValue (purpose m b p r) (purpose m b q t)
same_purpose m (Some (Agent Min w vars equs)) p q r t h k = same_coordinate r t k w.at
same_purpose m (Some (Agent Max w vars equs)) p q r t h k = fraction_negated (coordinate r w.at) (coordinate t w.at) (same_coordinate r t k w.at)
same_purpose m (Some (Vi zeros pairs equs)) p q r t h k = same_flow m p q (λ v. coordinate r v) (λ v. coordinate t v) pairs h (same_coordinate r t k)
same_purpose m None p q r t h k = tt

-- each multiplier of an equation that is there is a fraction
abbrev pub AreFractions : Model → (ℕ → Ratio) → List EquId → Type 0
AreFractions m u [] = Unit {0}
AreFractions m u (e ∷ es) = ((q : Equation) → slice_get m.equations e.at ≡ Some q → pos 0 <ℤ (u e.at).bottom) × AreFractions m u es

pub same_charge : (m : Model) (u : ℕ → Ratio) (p q : Point) (es : List EquId) → SamePoint p q → AreFractions m u es → SameValue (charge m u p es) (charge m u q es)
same_charge m u p q [] h k = zero_itself
same_charge m u p q (e ∷ es) h k =
    joined_both (λ x y. Some (plus x y)) fraction_plus
    (option_map (λ g. times (u e.at) g) (gap m p e.at)) (option_map (λ g. times (u e.at) g) (gap m q e.at)) (charge m u p es) (charge m u q es)
    (there (slice_get m.equations e.at) k.0)
    (same_charge m u p q es h k.1)
  where
    there : (o : Option Equation) → ((c : Equation) → o ≡ Some c → pos 0 <ℤ (u e.at).bottom) → SameValue (option_map (λ g. times (u e.at) g) (gap_by p o)) (option_map (λ g. times (u e.at) g) (gap_by q o))
    there (Some c) l = mapped (λ g. times (u e.at) g) (λ x y d. fraction_times (u e.at) (u e.at) x y (fraction_itself (u e.at) (l c refl)) d) (sides_gap p c) (sides_gap q c) (same_gap c p q h)
    there None l = tt
