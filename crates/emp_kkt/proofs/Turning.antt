-- Coefficients.
use Rattle.std.proofs.Common.{◌≡◌, inl, inr, ℕ, ◌+◌, ◌<◌, ◌≤◌, ◌++◌, neg_ℤ, nat_eq, Bool, true, false, cond, nat_lt, List, [], ◌∷◌, length, get_or, drop, Ok, Err, refl, sym, ap, subst, ◌∙◌, arith, zero, suc}
use Rattle.std.proofs.lemmas.List.{drop_more, drop_all}
use Rattle.emp_num.proofs.Same.{frac_eq}
use Rattle.emp_num.specs.Opposite.{opposite}
use Rattle.emp_num.specs.Whole.{whole}
use Rattle.emp_num.specs.declared.exact.Wide.{Wide}
use Rattle.emp_num.specs.declared.frac.Frac.{Frac}
use Rattle.emp_ast.specs.declared.tree.VarId.{VarId}
use Rattle.emp_poly.specs.Quads.{linear_at}
use Rattle.emp_conditions.specs.Base.{multiplier_place}
use Rattle.emp_problem.specs.declared.problem.Rule.{Rule}
use Rattle.emp_problem.specs.declared.problem.BlockPart.{BlockPart}
use Rattle.emp_problem.specs.declared.problem.AgentProblem.{AgentProblem}
use Rattle.emp_kkt.specs.Items.{shape, no_lin, no_variable, own_at}
use Rattle.emp_kkt.specs.Cells.{Gives, lin_cell, ThenGives, RuleBy, RuleGives, ChargesGive, StartGives, SlopeGives}
use Rattle.emp_kkt.specs.Making.{bases_of}
use Rattle.emp_kkt.proofs.Putting.{put_step, put_end}

-- ---- signs
pub turned_is : (f r : Frac) → r.num ≡ neg_ℤ f.num → r.den ≡ f.den → r ≡ opposite f
turned_is f r n d = frac_eq r (opposite f) n d

pub ruleset turning = (turned_is)

-- ---- the fold over the rules
then_step : (first : Gives → Type 0) (next : Frac → Gives → Type 0) (m : Frac) → first (Ok m) → (r : Gives) → next m r → ThenGives first next r
then_step first next m h (Ok d) k = (m, h, k)
then_step first next m h (Err e) k = inr (m, h, k)

pub charge_more : (pr : AgentProblem) (j v at : ℕ) (rs : List Rule) (k : ℕ) (x : Rule) (c m : Frac) (r : Gives) → k < length rs → x ≡ get_or rs k x → RuleGives pr j v at x c (Ok m) → ChargesGive pr j v at (drop (k + 1) rs) m r → ChargesGive pr j v at (drop k rs) c r
charge_more pr j v at rs k x c m r h is g rest =
    subst (λ ys. ChargesGive pr j v at ys c r) (ap (λ y. y ∷ drop (k + 1) rs) is ∙ sym (drop_more rs k x h))
    (then_step (RuleGives pr j v at x c) (ChargesGive pr j v at (drop (k + 1) rs)) m g r rest)

-- the base variable of a rule's multiplier
base_read : (pr : AgentProblem) (j : ℕ) (rs : List Rule) (bases : List ℕ) (k : ℕ) (x : Rule) → bases ≡ bases_of pr j rs → k < length rs → x ≡ get_or rs k x → get_or bases k 0 ≡ multiplier_place (shape pr) j x.equation.at
base_read pr j rs bases k x e h is = ap (λ l. get_or l k 0) e ∙ (go rs k h ∙ ap (λ (r : Rule). multiplier_place (shape pr) j r.equation.at) (sym is))
  where
    go : (ys : List Rule) (i : ℕ) → i < length ys → get_or (bases_of pr j ys) i 0 ≡ multiplier_place (shape pr) j (get_or ys i x).equation.at
    go [] i l = absurd (omega arith)
    go (y ∷ ys) zero l = refl
    go (y ∷ ys) (suc i) l = go ys i (omega arith)

rule_read : (pr : AgentProblem) (j v at : ℕ) (x : Rule) (base : ℕ) (c : Frac) (r : Gives) → base ≡ multiplier_place (shape pr) j x.equation.at → RuleBy (nat_eq base at) (linear_at x.row.linear v) c r → RuleGives pr j v at x c r
rule_read pr j v at x base c r e h = subst (λ (b : ℕ). RuleBy (nat_eq b at) (linear_at x.row.linear v) c r) e h

pub charge_next : (pr : AgentProblem) (j v at : ℕ) (rs : List Rule) (bases : List ℕ) (k : ℕ) (x : Rule) (c m : Frac) (r : Gives) → bases ≡ bases_of pr j rs → k < length rs → x ≡ get_or rs k x → RuleBy (nat_eq (get_or bases k 0) at) (linear_at x.row.linear v) c (Ok m) → ChargesGive pr j v at (drop (k + 1) rs) m r → ChargesGive pr j v at (drop k rs) c r
charge_next pr j v at rs bases k x c m r e h is g rest = charge_more pr j v at rs k x c m r h is (rule_read pr j v at x (get_or bases k 0) c (Ok m) (base_read pr j rs bases k x e h is) g) rest

pub charge_stop : (pr : AgentProblem) (j v at : ℕ) (rs : List Rule) (bases : List ℕ) (k : ℕ) (x : Rule) (c : Frac) (f : Wide) → bases ≡ bases_of pr j rs → k < length rs → x ≡ get_or rs k x → RuleBy (nat_eq (get_or bases k 0) at) (linear_at x.row.linear v) c (Err f) → ChargesGive pr j v at (drop k rs) c (Err f)
charge_stop pr j v at rs bases k x c f e h is g =
    subst (λ ys. ChargesGive pr j v at ys c (Err f)) (ap (λ y. y ∷ drop (k + 1) rs) is ∙ sym (drop_more rs k x h)) (inl (rule_read pr j v at x (get_or bases k 0) c (Err f) (base_read pr j rs bases k x e h is) g))

pub ruleset charging = (charge_next, charge_stop, drop_all)

-- ---- the base variables of a block's multipliers
pub bases_more : (pr : AgentProblem) (j : ℕ) (rs : List Rule) (at : ℕ) (x : Rule) (out new all : List ℕ) → at < length rs → x ≡ get_or rs at x → new ≡ out ++ multiplier_place (shape pr) j x.equation.at ∷ [] → out ++ bases_of pr j (drop at rs) ≡ all → new ++ bases_of pr j (drop (at + 1) rs) ≡ all
bases_more pr j rs at x out new all h is e inv = put_step (λ k. bases_of pr j) (multiplier_place (shape pr) j x.equation.at ∷ []) rs at x out new all h is (λ ys. refl) e inv

pub bases_end : (pr : AgentProblem) (j : ℕ) (rs : List Rule) (at : ℕ) (out all : List ℕ) → length rs ≤ at → out ++ bases_of pr j (drop at rs) ≡ all → out ≡ all
bases_end pr j rs at out all h inv = put_end (λ k. bases_of pr j) rs at out all (λ k. refl) h inv

pub ruleset listing = (bases_more, bases_end)

-- ---- no leader
pub no_goal : (pr : AgentProblem) (at : ℕ) → whole 0 ≡ lin_cell pr no_lin at
no_goal pr at = go (nat_lt at (length pr.variables))
  where
    go : (b : Bool) → whole 0 ≡ cond b (whole 0) (whole 0)
    go true = refl
    go false = refl

pub ruleset leading = (no_goal)

pub ruleset reading = (drop_more, drop_all)

-- ---- parts by number
pub same_part : {X : Type 0} (xs : List X) (i : ℕ) (x d : X) → i < length xs → x ≡ get_or xs i x → x ≡ get_or xs i d
same_part xs i x d h is = is ∙ go xs i h
  where
    go : (ys : List _) (k : ℕ) → k < length ys → get_or ys k x ≡ get_or ys k d
    go [] k h = absurd (omega arith)
    go (y ∷ ys) zero h = refl
    go (y ∷ ys) (suc k) h = go ys k (omega arith)

pub slope_gives : (pr : AgentProblem) (j : ℕ) (b : BlockPart) (i at : ℕ) (v : VarId) (s : Frac) (r : Gives) → i < length b.own → v ≡ get_or b.own i v → StartGives pr b i at (Ok s) → ChargesGive pr j v.at at b.rules s r → SlopeGives pr j b i at r
slope_gives pr j b i at v s r h is start rest =
    then_step (StartGives pr b i at) (ChargesGive pr j (own_at b.own i).at at b.rules) s start r
    (subst (λ (w : VarId). ChargesGive pr j w.at at b.rules s r) (same_part b.own i v no_variable h is) rest)

pub ruleset sloping = (slope_gives)
