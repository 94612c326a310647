-- A file of the class has one problem.
use Rattle.std.proofs.Common.{◌≡◌, ◌⊎◌, inl, inr, ℕ, suc, ◌<◌, ◌≤◌, Bool, true, false, List, [], ◌∷◌, length, get_or, Option, Some, None, arith, refl, sym, ap, ap₂, ◌∙◌}
use Rattle.std.specs.Prelude.{slice_get, filter}
use Rattle.std.proofs.lemmas.List.Elements.{All-nil, All-head, All-tail}
use Rattle.std.proofs.lemmas.Option.{slice_get_cases}
use Rattle.emp_ast.specs.declared.tree.VarId.{VarId}
use Rattle.emp_ast.specs.declared.tree.EquId.{EquId}
use Rattle.emp_ast.specs.declared.model.Relation.{Relation}
use Rattle.emp_ast.specs.declared.model.Equation.{Equation}
use Rattle.emp_ast.specs.declared.model.Model.{Model}
use Rattle.emp_ast.specs.declared.annot.Block.{Block}
use Rattle.emp_ast.specs.declared.annot.Block.TheVariants.{Agent, Vi}
use Rattle.emp_ast.specs.declared.annot.Annot.{Annot}
use Rattle.emp_ast.specs.Parties.{leader, block, block_equations, equations_by, constraints, is_constraint}
use Rattle.emp_form.specs.Expansion.{form}
use Rattle.emp_poly.specs.declared.quad.Lin.{Lin}
use Rattle.emp_agents.specs.Given.{difference}
use Rattle.emp_problem.specs.declared.problem.LeftVariable.{LeftVariable}
use Rattle.emp_problem.specs.declared.problem.Rule.{Rule}
use Rattle.emp_problem.specs.declared.problem.Purpose.{Purpose}
use Rattle.emp_problem.specs.declared.problem.Purpose.TheVariants.{Goal, Flow}
use Rattle.emp_problem.specs.declared.problem.BlockPart.{BlockPart}
use Rattle.emp_problem.specs.declared.problem.LeaderPart.{LeaderPart}
use Rattle.emp_problem.specs.declared.problem.AgentProblem.{AgentProblem}
use Rattle.emp_problem.specs.Left.{function_form, goal_form, block_flow}
use Rattle.emp_problem.specs.ProblemOf.{IsRuleFor, AreRulesFor, AreFlowsFor, IsPurposeFor, IsBlockFor, AreBlocksFor, LeadsFor}
use Rattle.emp_problem.specs.Class.{EquationsFit, AnnotFits}
use Rattle.emp_subst.proofs.Constraints.{all_filter, equations_fit, leader_fit}
use Rattle.emp_subst.proofs.Keeping.{fit_at}
use Rattle.emp_unique.specs.Laws.{OneProblem}
use Rattle.emp_unique.proofs.Polynomials.{one_quad, one_lin}

-- ---- rules
rule_eq : (r s : Rule) → r.equation ≡ s.equation → r.relation ≡ s.relation → r.row ≡ s.row → r ≡ s
rule_eq r s e f g = same r.equation s.equation r.relation s.relation r.row s.row e f g
  where
    same : (a b : EquId) (c d : Relation) (l k : Lin) → a ≡ b → c ≡ d → l ≡ k → ◌≡◌ {A = Rule} (record { equation = a; relation = c; row = l }) (record { equation = b; relation = d; row = k })
    same a b c d l k e f g = rw (e, f, g) refl

-- the equation of a number below their count
there : (m : Model) (n : ℕ) → n < length m.equations → (q : Equation) × (slice_get m.equations n ≡ Some q)
there m n l = go (slice_get_cases m.equations n).1
  where
    go : ((q : Equation) × (n < length m.equations) × (slice_get m.equations n ≡ Some q) × (get_or m.equations n q ≡ q)) ⊎ ((length m.equations ≤ n) × (slice_get m.equations n ≡ None)) → (q : Equation) × (slice_get m.equations n ≡ Some q)
    go (inl f) = (f.0, f.2)
    go (inr p) = absurd (omega (arith, p.0, l))

rule_same : (m : Model) (e : EquId) (r s : Rule) → e.at < length m.equations → IsRuleFor m e r → IsRuleFor m e s → r ≡ s
rule_same m e r s l h k =
    let q = there m e.at l in
    rule_eq r s (h.equation ∙ sym k.equation) (h.relation q.0 q.1 ∙ sym (k.relation q.0 q.1)) (one_lin (form (difference q.0)) r.row s.row (h.row q.0 q.1) (k.row q.0 q.1))

rules_same : (m : Model) (es : List EquId) (rs ss : List Rule) → EquationsFit (length m.equations) es → AreRulesFor m es rs → AreRulesFor m es ss → rs ≡ ss
rules_same m [] [] [] f h k = refl
rules_same m [] [] (s ∷ ss) f h k = absurd k
rules_same m [] (r ∷ rs) ss f h k = absurd h
rules_same m (e ∷ es) [] ss f h k = absurd h
rules_same m (e ∷ es) (r ∷ rs) [] f h k = absurd k
rules_same m (e ∷ es) (r ∷ rs) (s ∷ ss) f h k =
    ap₂ (λ x ys. x ∷ ys) (rule_same m e r s (All-head (λ e. e.at < length m.equations) e es f) h.0 k.0) (rules_same m es rs ss (All-tail (λ e. e.at < length m.equations) e es f) h.1 k.1)

constraints_fit : (m : Model) (a : Annot) (k : ℕ) → AnnotFits m a → EquationsFit (length m.equations) (constraints m a (block k))
constraints_fit m a k fits = go (slice_get a.blocks k) refl
  where
    go : (o : Option Block) → slice_get a.blocks k ≡ o → EquationsFit (length m.equations) (filter (λ e. is_constraint m a (block k) e.at) (equations_by a o))
    go None is = All-nil (λ e. e.at < length m.equations)
    go (Some b) is = all_filter (λ e. e.at < length m.equations) (λ e. is_constraint m a (block k) e.at) (block_equations a b) (equations_fit m a b fits (fit_at m a k b fits is))

-- ---- blocks
flows_same : (m : Model) (gs : List (Option ℕ)) (ls ks : List Lin) → AreFlowsFor m gs ls → AreFlowsFor m gs ks → ls ≡ ks
flows_same m [] [] [] h j = refl
flows_same m [] [] (k ∷ ks) h j = absurd j
flows_same m [] (l ∷ ls) ks h j = absurd h
flows_same m (g ∷ gs) [] ks h j = absurd h
flows_same m (g ∷ gs) (l ∷ ls) [] h j = absurd j
flows_same m (g ∷ gs) (l ∷ ls) (k ∷ ks) h j = ap₂ (λ x ys. x ∷ ys) (one_lin (function_form m g) l k h.0 j.0) (flows_same m gs ls ks h.1 j.1)

purpose_same : (m : Model) (a : Annot) (k : ℕ) (b : Block) (p q : Purpose) → IsPurposeFor m a k b p → IsPurposeFor m a k b q → p ≡ q
purpose_same m a k (Agent s w vars equs) (Goal p) (Goal q) h j = ap Goal (one_quad (goal_form m a (block k)) p q h j)
purpose_same m a k (Agent s w vars equs) (Goal p) (Flow qs) h j = absurd j
purpose_same m a k (Agent s w vars equs) (Flow ps) q h j = absurd h
purpose_same m a k (Vi zeros pairs equs) (Goal p) q h j = absurd h
purpose_same m a k (Vi zeros pairs equs) (Flow ps) (Goal q) h j = absurd j
purpose_same m a k (Vi zeros pairs equs) (Flow ps) (Flow qs) h j = ap Flow (flows_same m (block_flow (Vi zeros pairs equs)) ps qs h j)

part_eq : (p q : BlockPart) → p.own ≡ q.own → p.purpose ≡ q.purpose → p.rules ≡ q.rules → p ≡ q
part_eq p q e f g = same p.own q.own p.purpose q.purpose p.rules q.rules e f g
  where
    same : (a b : List VarId) (c d : Purpose) (l k : List Rule) → a ≡ b → c ≡ d → l ≡ k → ◌≡◌ {A = BlockPart} (record { own = a; purpose = c; rules = l }) (record { own = b; purpose = d; rules = k })
    same a b c d l k e f g = rw (e, f, g) refl

block_same : (m : Model) (a : Annot) (k : ℕ) (b : Block) (p q : BlockPart) → AnnotFits m a → IsBlockFor m a k b p → IsBlockFor m a k b q → p ≡ q
block_same m a k b p q fits h j =
    part_eq p q (h.own ∙ sym j.own) (purpose_same m a k b p.purpose q.purpose h.purpose j.purpose) (rules_same m (constraints m a (block k)) p.rules q.rules (constraints_fit m a k fits) h.rules j.rules)

blocks_same : (m : Model) (a : Annot) (k : ℕ) (bs : List Block) (ps qs : List BlockPart) → AnnotFits m a → AreBlocksFor m a k bs ps → AreBlocksFor m a k bs qs → ps ≡ qs
blocks_same m a k [] [] [] fits h j = refl
blocks_same m a k [] [] (q ∷ qs) fits h j = absurd j
blocks_same m a k [] (p ∷ ps) qs fits h j = absurd h
blocks_same m a k (b ∷ bs) [] qs fits h j = absurd h
blocks_same m a k (b ∷ bs) (p ∷ ps) [] fits h j = absurd j
blocks_same m a k (b ∷ bs) (p ∷ ps) (q ∷ qs) fits h j = ap₂ (λ x ys. x ∷ ys) (block_same m a k b p q fits h.0 j.0) (blocks_same m a (suc k) bs ps qs fits h.1 j.1)

-- ---- the leader
leader_eq : (l k : LeaderPart) → l.own ≡ k.own → l.goal ≡ k.goal → l.rules ≡ k.rules → l ≡ k
leader_eq l k e f g = same l.own k.own l.goal k.goal l.rules k.rules e f g
  where
    same : (a b : List VarId) (c d : Lin) (r s : List Rule) → a ≡ b → c ≡ d → r ≡ s → ◌≡◌ {A = LeaderPart} (record { own = a; goal = c; rules = r }) (record { own = b; goal = d; rules = s })
    same a b c d r s e f g = rw (e, f, g) refl

leads_same : (m : Model) (a : Annot) (b : Bool) (l k : Option LeaderPart) → LeadsFor m a b l → LeadsFor m a b k → l ≡ k
leads_same m a true None k h j = absurd h
leads_same m a true (Some l) None h j = absurd j
leads_same m a true (Some l) (Some k) h j =
    ap Some (leader_eq l k (h.own ∙ sym j.own) (one_lin (goal_form m a leader) l.goal k.goal h.goal j.goal) (rules_same m (constraints m a leader) l.rules k.rules (leader_fit m a (constraints m a leader) refl) h.rules j.rules))
leads_same m a false None None h j = refl
leads_same m a false None (Some k) h j = absurd j
leads_same m a false (Some l) k h j = absurd h

-- ---- the problem
problem_eq : (p q : AgentProblem) → p.variables ≡ q.variables → p.leader ≡ q.leader → p.blocks ≡ q.blocks → p.duals ≡ q.duals → p.visols ≡ q.visols → p ≡ q
problem_eq p q e f g h i = same p.variables q.variables p.leader q.leader p.blocks q.blocks p.duals q.duals p.visols q.visols e f g h i
  where
    same : (a b : List LeftVariable) (c d : Option LeaderPart) (r s : List BlockPart) (t u : List (VarId × EquId)) (v w : List EquId) → a ≡ b → c ≡ d → r ≡ s → t ≡ u → v ≡ w → ◌≡◌ {A = AgentProblem} (record { variables = a; leader = c; blocks = r; duals = t; visols = v }) (record { variables = b; leader = d; blocks = s; duals = u; visols = w })
    same a b c d r s t u v w e f g h i = rw (e, f, g, h, i) refl

pub one_problem : OneProblem
one_problem m a p q class h k =
    problem_eq p q (h.variables ∙ sym k.variables) (leads_same m a a.bilevel p.leader q.leader h.leads k.leads) (blocks_same m a 0 a.blocks p.blocks q.blocks class.fits h.blocks k.blocks) (h.duals ∙ sym k.duals) (h.visols ∙ sym k.visols)
