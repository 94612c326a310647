-- A coefficient of an item is one fraction, or forms a wide number, and a quantity is one row.
use Rattle.std.proofs.Common.{◌≡◌, inl, inr, ℕ, ◌<◌, ◌-ℤ◌, ◌*ℤ◌, Bool, true, false, cond, nat_eq, List, [], ◌∷◌, length, get_or, Option, Some, None, Ok, Err, refl, sym, ap, ap₂, subst, ◌∙◌}
use Rattle.std.specs.Prelude.{nat_lt}
use Rattle.std.proofs.lemmas.List.{same_lists}
use Rattle.std.proofs.lemmas.Option.{same_Some, none-some}
use Rattle.emp_algebra.proofs.Laws.{mul_pos}
use Rattle.emp_num.specs.FracSpec.{SubtractsNarrow, SubtractsWide}
use Rattle.emp_num.specs.Whole.{whole}
use Rattle.emp_num.specs.declared.exact.Wide.{Wide}
use Rattle.emp_num.specs.declared.frac.Frac.{Frac}
use Rattle.emp_num.proofs.FracOrder.{one_value}
use Rattle.emp_ldl.proofs.OneEnd.{both, multiplies_both}
use Rattle.emp_rows.specs.declared.affine.Affine.{Affine}
use Rattle.emp_rows.specs.Primitive.{made}
use Rattle.emp_poly.specs.Quads.{linear_at, square_at}
use Rattle.emp_poly.specs.declared.quad.Quad.{Quad}
use Rattle.emp_problem.specs.declared.problem.Rule.{Rule}
use Rattle.emp_problem.specs.declared.problem.Purpose.{Purpose}
use Rattle.emp_problem.specs.declared.problem.Purpose.TheVariants.{Goal as Aim, Flow}
use Rattle.emp_problem.specs.declared.problem.BlockPart.{BlockPart}
use Rattle.emp_problem.specs.declared.problem.LeaderPart.{LeaderPart}
use Rattle.emp_problem.specs.declared.problem.AgentProblem.{AgentProblem}
use Rattle.emp_problem.specs.Problem.{left_of}
use Rattle.emp_conditions.specs.Base.{multiplier_place}
use Rattle.emp_kkt.specs.declared.asked.Item.{Item}
use Rattle.emp_kkt.specs.declared.asked.Item.TheVariants.{Low, High, Slope, Raised, Row, LeaderRow, Goal, Alone}
use Rattle.emp_kkt.specs.Items.{shape, no_lin, part_at, own_at, rule_at, leader_rules, leader_goal}
use Rattle.emp_kkt.specs.Cells.{Gives, unit_frac, signed_frac, lin_cell, ThenGives, TwiceGives, PartialBy, PurposeGives, StartBy, StartGives, LessGives, RuleBy, RuleGives, ChargesGive, SlopeGives, SignedGives, RaisedBy, CellGives, constant_of, AreCells}
use Rattle.emp_kkt.specs.Gives.{IsMadeOf, IsWideItem, AreMadeOf, IsGoalMade}

-- ---- what gives one fraction, or none
pub record IsOne (P : Gives → Type 0) : Type 0 where
  pub same : (x y : Frac) → P (Ok x) → P (Ok y) → x ≡ y
  pub apart : (x : Frac) (e : Wide) → P (Ok x) → P (Err e) → ⊥

ok_inside : (x y : Frac) → ◌≡◌ {A = Gives} (Ok x) (Ok y) → x ≡ y
ok_inside x y e = cc

ok_apart : (x : Frac) (e : Wide) → ◌≡◌ {A = Gives} (Err e) (Ok x) → ⊥
ok_apart x e h = cc

one_fraction : (c : Frac) → IsOne (λ r. r ≡ Ok c)
one_fraction c = record { same = λ x y h k. ok_inside x y (h ∙ sym k); apart = λ x e h k. ok_apart c e k }

one_then : (P : Gives → Type 0) (Q : Frac → Gives → Type 0) → IsOne P → ((m : Frac) → IsOne (Q m)) → IsOne (ThenGives P Q)
one_then P Q p q = record {
  same = λ x y h k. (q k.0).same x y (subst (λ (m : Frac). Q m (Ok x)) (p.same h.0 k.0 h.1 k.1) h.2) k.2;
  apart = λ x e h k. clash x e h k;
}
  where
    clash : (x : Frac) (e : Wide) → ThenGives P Q (Ok x) → ThenGives P Q (Err e) → ⊥
    clash x e h (inl k) = p.apart h.0 e h.1 k
    clash x e h (inr k) = (q k.0).apart x e (subst (λ (m : Frac). Q m (Ok x)) (p.same h.0 k.0 h.1 k.1) h.2) k.2

-- ---- the derivative of what a block wants
one_twice : (f : Frac) → IsOne (TwiceGives f)
one_twice f = record {
  same = λ x y h k. one_value ((whole 2).num *ℤ f.num) ((whole 2).den *ℤ f.den) x y (mul_pos (whole 2).den f.den (whole 2).positive f.positive) h.1 k.1;
  apart = λ x e h k. multiplies_both (whole 2) f h.0 k;
}

one_partial : (b : Bool) (q : Quad) (v u : ℕ) → IsOne (PartialBy b q v u)
one_partial true q v u = one_twice (square_at q.square v v)
one_partial false q v u = one_fraction (cond (nat_lt u v) (square_at q.square u v) (square_at q.square v u))

one_purpose : (p : Purpose) (i v u : ℕ) → IsOne (PurposeGives p i v u)
one_purpose (Aim q) i v u = one_partial (nat_eq u v) q v u
one_purpose (Flow fs) i v u = one_fraction (linear_at (get_or fs i no_lin).linear u)

one_start_by : (t : Bool) (pr : AgentProblem) (b : BlockPart) (i at : ℕ) → IsOne (StartBy t pr b i at)
one_start_by true pr b i at = one_purpose b.purpose i (own_at b.own i).at (get_or (left_of pr) at 0)
one_start_by false pr b i at = one_fraction (whole 0)

one_start : (pr : AgentProblem) (b : BlockPart) (i at : ℕ) → IsOne (StartGives pr b i at)
one_start pr b i at = one_start_by (nat_lt at (length pr.variables)) pr b i at

-- ---- multipliers
subtracts_both : (c x : Frac) → SubtractsNarrow c x → SubtractsWide c x → ⊥
subtracts_both c x n (inl w) = both (c.num *ℤ x.den) n.left w
subtracts_both c x n (inr (inl w)) = both (x.num *ℤ c.den) n.right w
subtracts_both c x n (inr (inr (inl w))) = both (c.num *ℤ x.den -ℤ x.num *ℤ c.den) n.top w
subtracts_both c x n (inr (inr (inr w))) = both (c.den *ℤ x.den) n.bottom w

one_less : (c x : Frac) → IsOne (LessGives c x)
one_less c x = record {
  same = λ y z h k. one_value (c.num *ℤ x.den -ℤ x.num *ℤ c.den) (c.den *ℤ x.den) y z (mul_pos c.den x.den c.positive x.positive) h.1 k.1;
  apart = λ y e h k. subtracts_both c x h.0 k;
}

one_rule_by : (t : Bool) (x c : Frac) → IsOne (RuleBy t x c)
one_rule_by true x c = one_less c x
one_rule_by false x c = one_fraction c

one_rule : (pr : AgentProblem) (j v at : ℕ) (x : Rule) (c : Frac) → IsOne (RuleGives pr j v at x c)
one_rule pr j v at x c = one_rule_by (nat_eq (multiplier_place (shape pr) j x.equation.at) at) (linear_at x.row.linear v) c

one_charge : (pr : AgentProblem) (j v at : ℕ) (rs : List Rule) (c : Frac) → IsOne (ChargesGive pr j v at rs c)
one_charge pr j v at [] c = one_fraction c
one_charge pr j v at (x ∷ xs) c = one_then (RuleGives pr j v at x c) (ChargesGive pr j v at xs) (one_rule pr j v at x c) (λ m. one_charge pr j v at xs m)

one_slope : (pr : AgentProblem) (j : ℕ) (b : BlockPart) (i at : ℕ) → IsOne (SlopeGives pr j b i at)
one_slope pr j b i at = one_then (StartGives pr b i at) (ChargesGive pr j (own_at b.own i).at at b.rules) (one_start pr b i at) (λ m. one_charge pr j (own_at b.own i).at at b.rules m)

-- ---- items
one_signed : (t : Bool) (P : Gives → Type 0) → IsOne P → IsOne (SignedGives t P)
one_signed t P p = record {
  same = λ x y h k. h.2 ∙ (ap (signed_frac t) (p.same h.0 k.0 h.1 k.1) ∙ sym k.2);
  apart = λ x e h k. p.apart h.0 e h.1 k;
}

one_raised : (t : Bool) (P : Gives → Type 0) → IsOne P → IsOne (RaisedBy t P)
one_raised true P p = one_fraction (whole 1)
one_raised false P p = p

pub one_cell : (pr : AgentProblem) (item : Item) (at : ℕ) → IsOne (CellGives pr item at)
one_cell pr (Low k a) at = one_fraction (unit_frac k at)
one_cell pr (High k b) at = one_fraction (signed_frac true (unit_frac k at))
one_cell pr (Slope j i turned) at = one_signed turned (SlopeGives pr j (part_at pr j) i at) (one_slope pr j (part_at pr j) i at)
one_cell pr (Raised j i z) at = one_raised (nat_eq at z) (SlopeGives pr j (part_at pr j) i at) (one_slope pr j (part_at pr j) i at)
one_cell pr (Row j i turned) at = one_fraction (signed_frac turned (lin_cell pr (rule_at (part_at pr j).rules i).row at))
one_cell pr (LeaderRow i turned) at = one_fraction (signed_frac turned (lin_cell pr (rule_at (leader_rules pr.leader) i).row at))
one_cell pr Goal at = one_fraction (lin_cell pr (leader_goal pr.leader) at)
one_cell pr (Alone k turned) at = one_fraction (signed_frac turned (unit_frac k at))

-- ---- quantities
cells_same : (pr : AgentProblem) (item : Item) (n : ℕ) (cs ds : List Frac) → AreCells pr item n cs → AreCells pr item n ds → cs ≡ ds
cells_same pr item n cs ds h k =
    same_lists cs ds (h.count ∙ sym k.count) (λ at d l. let b : at < n = subst (λ c. at < c) h.count l in (one_cell pr item at).same (get_or cs at d) (get_or ds at d) (h.each at d b) (k.each at d b))

row_same : (pr : AgentProblem) (n : ℕ) (item : Item) (r s : Affine) → IsMadeOf pr n item r → IsMadeOf pr n item s → r ≡ s
row_same pr n item r s h k = same_Some r s (sym h.made ∙ (ap (λ cs. made cs (constant_of pr item)) (cells_same pr item n h.cells k.cells h.are k.are) ∙ k.made))

-- a quantity that is made forms no wide number
pub made_not_wide : (pr : AgentProblem) (n : ℕ) (item : Item) (r : Affine) → IsMadeOf pr n item r → IsWideItem pr n item → ⊥
made_not_wide pr n item r h (inl w) = (one_cell pr item w.at).apart (get_or h.cells w.at (whole 0)) w.fault (h.are.each w.at (whole 0) w.below) w.wide
made_not_wide pr n item r h (inr w) = none-some r (sym w.none ∙ (ap (λ cs. made cs (constant_of pr item)) (cells_same pr item n w.cells h.cells w.are h.are) ∙ h.made))

pub rows_same : (pr : AgentProblem) (n : ℕ) (is : List Item) (rs ss : List Affine) → AreMadeOf pr n is rs → AreMadeOf pr n is ss → rs ≡ ss
rows_same pr n [] [] [] h k = refl
rows_same pr n [] [] (s ∷ ss) h k = absurd k
rows_same pr n [] (r ∷ rs) ss h k = absurd h
rows_same pr n (i ∷ is) [] ss h k = absurd h
rows_same pr n (i ∷ is) (r ∷ rs) [] h k = absurd k
rows_same pr n (i ∷ is) (r ∷ rs) (s ∷ ss) h k = ap₂ (λ x ys. x ∷ ys) (row_same pr n i r s h.0 k.0) (rows_same pr n is rs ss h.1 k.1)

pub goal_same : (pr : AgentProblem) (n : ℕ) (l : Option LeaderPart) (o u : Option Affine) → IsGoalMade pr n l o → IsGoalMade pr n l u → o ≡ u
goal_same pr n None None None h k = refl
goal_same pr n None None (Some s) h k = absurd k
goal_same pr n None (Some r) u h k = absurd h
goal_same pr n (Some l) None u h k = absurd h
goal_same pr n (Some l) (Some r) None h k = absurd k
goal_same pr n (Some l) (Some r) (Some s) h k = ap Some (row_same pr n Goal r s h k)
