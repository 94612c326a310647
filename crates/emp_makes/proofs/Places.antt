-- Models that differ in places alone have the same parties, polynomials, problem, values and texts.
use Rattle.std.proofs.Common.{◌≡◌, inl, inr, ℕ, zero, suc, ◌+◌, ◌<◌, Bool, true, false, cond, ◌&&◌, ◌||◌, not, nat_eq, neg_ℤ, List, [], ◌∷◌, ◌++◌, map, filter, length, take, codes, Option, Some, None, Result, Ok, Err, refl, sym, ap, ap₂, subst, subst₂, ◌∙◌}
use Rattle.std.specs.List.{slice_get, list_any}
use Rattle.std.specs.Prelude.{slice_index_or, flat_map}
use Rattle.std.proofs.lemmas.Bool.{false≢true}
use Rattle.std.proofs.lemmas.Option.{same_Some, none-some}
use Rattle.emp_num.specs.declared.frac.Frac.{Frac}
use Rattle.emp_num.specs.Whole.{whole}
use Rattle.emp_ast.specs.declared.tree.Node.{Node}
use Rattle.emp_ast.specs.declared.tree.Tree.{Tree}
use Rattle.emp_ast.specs.declared.tree.VarId.{VarId}
use Rattle.emp_ast.specs.declared.tree.EquId.{EquId}
use Rattle.emp_ast.specs.declared.tree.Operator.TheVariants.{Minus}
use Rattle.emp_ast.specs.declared.model.Relation.{Relation}
use Rattle.emp_ast.specs.declared.model.Equation.{Equation}
use Rattle.emp_ast.specs.declared.model.Variable.{Variable}
use Rattle.emp_ast.specs.declared.model.Sense.{Sense}
use Rattle.emp_ast.specs.declared.model.Model.{Model}
use Rattle.emp_ast.specs.declared.annot.Block.{Block}
use Rattle.emp_ast.specs.declared.annot.Block.TheVariants.{Agent, Vi}
use Rattle.emp_ast.specs.declared.annot.Annot.{Annot}
use Rattle.emp_ast.specs.Expression.{Expression, joined, expression_of}
use Rattle.emp_ast.specs.Value.{value}
use Rattle.emp_ast.specs.Meets.{AreRelated, MeetsEquation}
use Rattle.emp_ast.specs.Names.{variable_names, SameEquation, SameEquations, SameModel}
use Rattle.emp_ast.specs.Occurrence.{leaves, equation_leaves, occurrences, is_summand}
use Rattle.emp_ast.specs.Parties.{Party, leader, block, names_equation, is_dual, is_implicit_equation, block_variables, some_block_has, all_equations, equations, has_alone, goal_objective, objective, has_no_bound, is_equality, ties, can_define, defines_by, defines, is_defined_by, is_defined_of, some_block_defines, is_defined, block_functions, is_constraint, constraints}
use Rattle.emp_ast.specs.Convex.{counted_by}
use Rattle.emp_num.specs.Ratio.{SameRatio}
use Rattle.emp_num.specs.Point.{Point, coordinate}
use Rattle.emp_form.specs.Expansion.{form, IsPolynomial}
use Rattle.emp_poly.specs.Quads.{HasForm, as_ratio}
use Rattle.emp_poly.specs.Gradient.{LinHasForm}
use Rattle.emp_poly.specs.declared.quad.Lin.{Lin}
use Rattle.emp_expand.specs.Expanding.{AllFree}
use Rattle.emp_poly.specs.Written.{entry}
use Rattle.emp_form.specs.Calls.{Formula}
use Rattle.emp_agents.specs.Given.{leaf_sign, difference, without, times_form, first_at, definition, given_by, given_for}
use Rattle.emp_problem.specs.Left.{left_from, left, no_variable, equation_form, function_form, signed_for, goal_form, block_flow}
use Rattle.emp_problem.specs.declared.problem.Rule.{Rule}
use Rattle.emp_problem.specs.declared.problem.Purpose.{Purpose}
use Rattle.emp_problem.specs.declared.problem.Purpose.TheVariants.{Goal, Flow}
use Rattle.emp_problem.specs.declared.problem.BlockPart.{BlockPart}
use Rattle.emp_problem.specs.declared.problem.LeaderPart.{LeaderPart}
use Rattle.emp_problem.specs.declared.problem.AgentProblem.{AgentProblem}
use Rattle.emp_problem.specs.ProblemOf.{IsRuleFor, AreRulesFor, AreFlowsFor, IsPurposeFor, AreBlocksFor, LeadsFor, IsProblemOf}
use Rattle.emp_subst.specs.Subst.{IsExpanded, AllExpand}
use Rattle.emp_subst.specs.declared.fault.FillFault.{FillFault}
use Rattle.emp_subst.specs.declared.fault.FillFault.TheVariants as FillWords
use Rattle.emp_subst.specs.Fill.{spread_from, spread, IsFold, IsFilled, FillGives}
use Rattle.gms_print.specs.Canonical.{EquationLines, an_equation, BoundLines, names_line, relation_text, goal_text, IsCanonical}
use Rattle.info_print.specs.Canonical.{variable_word, equation_word, head_line, sense_word, block_line, tie_line, visol_line, info_text}
use Rattle.emp_report.specs.ClassLines.{value_line}

-- ---- equations
module _ (e f : Equation) (s : SameEquation e f) where
  leaves_same : (w : ℕ) → equation_leaves w e ≡ equation_leaves w f
  leaves_same w = λ i. leaves w (expression_of (s.left i)) + leaves w (expression_of (s.right i))

  pub difference_same : difference e ≡ difference f
  difference_same = λ i. joined Minus (expression_of (s.left i)) (expression_of (s.right i))

  ties_equation : (w : ℕ) → ties w (Some e) ≡ ties w (Some f)
  ties_equation w = λ i. is_equality (s.relation i) && (is_summand w (expression_of (s.left i)) || is_summand w (expression_of (s.right i)))

  meets_same : (p : Point) → MeetsEquation p e → MeetsEquation p f
  meets_same p h = subst (λ (x : Type 0). x) (λ i. AreRelated (s.relation i) (value p (expression_of (s.left i))) (value p (expression_of (s.right i)))) h

abbrev SameOption : Option Equation → Option Equation → Type 0
SameOption None None = Unit {0}
SameOption (Some e) (Some f) = SameEquation e f
SameOption None (Some f) = ⊥
SameOption (Some e) None = ⊥

got : (es fs : List Equation) → SameEquations es fs → (k : ℕ) → SameOption (slice_get es k) (slice_get fs k)
got [] [] s k = tt
got [] (f ∷ fs) s k = absurd s
got (e ∷ es) [] s k = absurd s
got (e ∷ es) (f ∷ fs) s zero = s.0
got (e ∷ es) (f ∷ fs) s (suc k) = got es fs s.1 k

record Twin (x : Option Equation) (f : Equation) : Type 0 where
  other : Equation
  is : x ≡ Some other
  same : SameEquation other f

twin : (x y : Option Equation) (f : Equation) → SameOption x y → y ≡ Some f → Twin x f
twin None None f s h = absurd (none-some f h)
twin (Some e) (Some g) f s h = record { other = e; is = refl; same = subst (SameEquation e) (same_Some g f h) s }
twin None (Some g) f s h = absurd s
twin (Some e) None f s h = absurd s

ties_option : (w : ℕ) (x y : Option Equation) → SameOption x y → ties w x ≡ ties w y
ties_option w None None s = refl
ties_option w (Some e) (Some f) s = ties_equation e f s w
ties_option w None (Some f) s = absurd s
ties_option w (Some e) None s = absurd s

given_option : (w : ℕ) (x y : Option Equation) → SameOption x y → given_by w x ≡ given_by w y
given_option w None None s = refl
given_option w (Some e) (Some f) s = ap (λ (d : Expression). times_form (neg_ℤ (leaf_sign w d)) (without w (form d))) (difference_same e f s)
given_option w None (Some f) s = absurd s
given_option w (Some e) None s = absurd s

form_option : (x y : Option Equation) → SameOption x y → equation_form x ≡ equation_form y
form_option None None s = refl
form_option (Some e) (Some f) s = ap form (difference_same e f s)
form_option None (Some f) s = absurd s
form_option (Some e) None s = absurd s

occurrences_same : (w : ℕ) (es fs : List Equation) → SameEquations es fs → occurrences w es ≡ occurrences w fs
occurrences_same w [] [] s = refl
occurrences_same w [] (f ∷ fs) s = absurd s
occurrences_same w (e ∷ es) [] s = absurd s
occurrences_same w (e ∷ es) (f ∷ fs) s = ap₂ (λ (x y : ℕ). x + y) (leaves_same e f s.0 w) (occurrences_same w es fs s.1)

all_same : (at : ℕ) (es fs : List Equation) → SameEquations es fs → all_equations at es ≡ all_equations at fs
all_same at [] [] s = refl
all_same at [] (f ∷ fs) s = absurd s
all_same at (e ∷ es) [] s = absurd s
all_same at (e ∷ es) (f ∷ fs) s =
    let rest = all_same (at + 1) es fs s.1 in
    λ i. record { at = at } ∷ rest i

lengths_same : (es fs : List Equation) → SameEquations es fs → length es ≡ length fs
lengths_same [] [] s = refl
lengths_same [] (f ∷ fs) s = absurd s
lengths_same (e ∷ es) [] s = absurd s
lengths_same (e ∷ es) (f ∷ fs) s = ap suc (lengths_same es fs s.1)

names_same : (es fs : List Equation) → SameEquations es fs → map (λ (e : Equation). e.name) es ≡ map (λ (e : Equation). e.name) fs
names_same [] [] s = refl
names_same [] (f ∷ fs) s = absurd s
names_same (e ∷ es) [] s = absurd s
names_same (e ∷ es) (f ∷ fs) s =
    let rest = names_same es fs s.1 in
    λ i. s.0.name i ∷ rest i

cond_option : (b c : Bool) (x y u v : Option Equation) → b ≡ c → SameOption x y → SameOption u v → SameOption (cond b x u) (cond c y v)
cond_option true true x y u v e s t = s
cond_option false false x y u v e s t = t
cond_option true false x y u v e s t = absurd (false≢true (sym e))
cond_option false true x y u v e s t = absurd (false≢true e)

first_same : (p q : ℕ → Bool) (es fs : List Equation) → ((k : ℕ) → p k ≡ q k) → SameEquations es fs → SameOption (first_at p es) (first_at q fs)
first_same p q [] [] h s = tt
first_same p q [] (f ∷ fs) h s = absurd s
first_same p q (e ∷ es) [] h s = absurd s
first_same p q (e ∷ es) (f ∷ fs) h s =
    cond_option (p 0) (q 0) (Some e) (Some f) (first_at (λ k. p (suc k)) es) (first_at (λ k. q (suc k)) fs) (h 0) s.0 (first_same (λ k. p (suc k)) (λ k. q (suc k)) es fs (λ k. h (suc k)) s.1)

-- ---- parties
module _ (m n : Model) (s : SameModel m n) (a : Annot) where
  at_same : (k : ℕ) → SameOption (slice_get m.equations k) (slice_get n.equations k)
  at_same k = got m.equations n.equations s.equations k

  twin_at : (k : ℕ) (f : Equation) → slice_get n.equations k ≡ Some f → Twin (slice_get m.equations k) f
  twin_at k f h = twin (slice_get m.equations k) (slice_get n.equations k) f (at_same k) h

  can_same : (e w : ℕ) → can_define m a e w ≡ can_define n a e w
  can_same e w =
      let count = occurrences_same w m.equations n.equations s.equations in
      let tied = ties_option w (slice_get m.equations e) (slice_get n.equations e) (at_same e) in
      λ i. has_no_bound (slice_get (s.variables i) w) && not (is_dual a w) && nat_eq (count i) 1 && tied i && not (is_implicit_equation a e)

  equations_same : (p : Party) → equations m a p ≡ equations n a p
  equations_same leader = ap (filter (λ (e : EquId). not (some_block_has a e.at))) (all_same 0 m.equations n.equations s.equations)
  equations_same (block k) = refl

  alone_same : (p : Party) (e : ℕ) → has_alone m a p e ≡ has_alone n a p e
  alone_same leader e = ap (λ (es : List EquId). names_equation es e) (equations_same leader)
  alone_same (block k) e = refl

  objective_same : (p : Party) → objective m a p ≡ objective n a p
  objective_same leader = ap goal_objective s.goal
  objective_same (block k) = refl

  defines_for : (p : Party) (e : ℕ) (o : Option (Sense × ℕ)) → defines_by m a p e o ≡ defines_by n a p e o
  defines_for p e None = refl
  defines_for p e (Some w) = ap₂ (λ (x y : Bool). x && y) (can_same e w.1) (alone_same p e)

  defines_same : (p : Party) (e : ℕ) → defines m a p e ≡ defines n a p e
  defines_same p e = ap (defines_by m a p e) (objective_same p) ∙ defines_for p e (objective n a p)

  defined_for : (p : Party) (v : ℕ) (o : Option (Sense × ℕ)) → is_defined_by m a p v o ≡ is_defined_by n a p v o
  defined_for p v None = refl
  defined_for p v (Some w) = λ i. nat_eq w.1 v && list_any (λ (e : EquId). defines_same p e.at i) (equations_same p i)

  defined_of_same : (p : Party) (v : ℕ) → is_defined_of m a p v ≡ is_defined_of n a p v
  defined_of_same p v = ap (is_defined_by m a p v) (objective_same p) ∙ defined_for p v (objective n a p)

  some_defines_same : (v k : ℕ) → some_block_defines m a v k ≡ some_block_defines n a v k
  some_defines_same v zero = refl
  some_defines_same v (suc k) = ap₂ (λ (x y : Bool). x || y) (defined_of_same (block k) v) (some_defines_same v k)

  defined_same : (v : ℕ) → is_defined m a v ≡ is_defined n a v
  defined_same v = ap₂ (λ (x y : Bool). x || (a.bilevel && y)) (some_defines_same v (length a.blocks)) (defined_of_same leader v)

  left_from_same : (at : ℕ) (xs : List Variable) → left_from m a at xs ≡ left_from n a at xs
  left_from_same at [] = refl
  left_from_same at (x ∷ xs) = ap₂ (λ (d : Bool) (r : List ℕ). cond d r (at ∷ r)) (defined_same at) (left_from_same (at + 1) xs)

  left_same : left m a ≡ left n a
  left_same = left_from_same 0 m.variables ∙ ap (left_from n a 0) s.variables

  constraint_same : (p : Party) (e : ℕ) → is_constraint m a p e ≡ is_constraint n a p e
  constraint_same p e = λ i. names_equation (equations_same p i) e && not (defines_same p e i) && not (names_equation (block_functions a p) e)

  constraints_same : (p : Party) → constraints m a p ≡ constraints n a p
  constraints_same p = λ i. filter (λ (e : EquId). constraint_same p e.at i) (equations_same p i)

  counted_for : (k : ℕ) (b : Option Block) → counted_by m a k b ≡ counted_by n a k b
  counted_for k None = refl
  counted_for k (Some b) = λ i. filter (λ (v : VarId). not (defined_of_same (block k) v.at i)) (block_variables b)

  given_for_same : (o : Option (Sense × ℕ)) (x y : Option Equation) → SameOption x y → given_for o x ≡ given_for o y
  given_for_same None x y h = refl
  given_for_same (Some w) x y h = given_option w.1 x y h

  goal_same : (p : Party) → goal_form m a p ≡ goal_form n a p
  goal_same p =
      ap (λ (o : Option (Sense × ℕ)). signed_for o (given_for o (definition m a p))) (objective_same p)
      ∙ ap (signed_for (objective n a p)) (given_for_same (objective n a p) (definition m a p) (definition n a p) (first_same (defines m a p) (defines n a p) m.equations n.equations (defines_same p) s.equations))

  function_same : (g : Option ℕ) → function_form m g ≡ function_form n g
  function_same None = refl
  function_same (Some e) = form_option (slice_get m.equations e) (slice_get n.equations e) (at_same e)

  -- ---- the problem
  rule_same : (e : EquId) (r : Rule) → IsRuleFor m e r → IsRuleFor n e r
  rule_same e r h = record {
    equation = h.equation;
    relation = λ q is. let t = twin_at e.at q is in h.relation t.other t.is ∙ t.same.relation;
    row = λ q is. let t = twin_at e.at q is in subst (λ (d : Expression). LinHasForm r.row (form d)) (difference_same t.other q t.same) (h.row t.other t.is);
  }

  rules_same : (es : List EquId) (rs : List Rule) → AreRulesFor m es rs → AreRulesFor n es rs
  rules_same [] [] h = tt
  rules_same [] (r ∷ rs) h = absurd h
  rules_same (e ∷ es) [] h = absurd h
  rules_same (e ∷ es) (r ∷ rs) h = (rule_same e r h.0, rules_same es rs h.1)

  flows_same : (gs : List (Option ℕ)) (ls : List Lin) → AreFlowsFor m gs ls → AreFlowsFor n gs ls
  flows_same [] [] h = tt
  flows_same [] (l ∷ ls) h = absurd h
  flows_same (g ∷ gs) [] h = absurd h
  flows_same (g ∷ gs) (l ∷ ls) h = (subst (LinHasForm l) (function_same g) h.0, flows_same gs ls h.1)

  purpose_same : (k : ℕ) (b : Block) (p : Purpose) → IsPurposeFor m a k b p → IsPurposeFor n a k b p
  purpose_same k (Agent sense objective vars equs) (Goal q) h = subst (HasForm q) (goal_same (block k)) h
  purpose_same k (Agent sense objective vars equs) (Flow ls) h = absurd h
  purpose_same k (Vi zeros pairs equs) (Goal q) h = absurd h
  purpose_same k (Vi zeros pairs equs) (Flow ls) h = flows_same (block_flow (Vi zeros pairs equs)) ls h

  blocks_same : (k : ℕ) (bs : List Block) (ps : List BlockPart) → AreBlocksFor m a k bs ps → AreBlocksFor n a k bs ps
  blocks_same k [] [] h = tt
  blocks_same k [] (p ∷ ps) h = absurd h
  blocks_same k (b ∷ bs) [] h = absurd h
  blocks_same k (b ∷ bs) (p ∷ ps) h = (
    record {
      own = h.0.own ∙ counted_for k (slice_get a.blocks k);
      purpose = purpose_same k b p.purpose h.0.purpose;
      rules = subst (λ (es : List EquId). AreRulesFor n es p.rules) (constraints_same (block k)) (rules_same (constraints m a (block k)) p.rules h.0.rules);
    },
    blocks_same (suc k) bs ps h.1,
  )

  no_leads : (l : Option LeaderPart) → LeadsFor m a false l → LeadsFor n a false l
  no_leads None h = tt
  no_leads (Some l) h = absurd h

  pub problem_same : (pr : AgentProblem) → a.bilevel ≡ false → IsProblemOf m a pr → IsProblemOf n a pr
  problem_same pr single h = record {
    variables = h.variables ∙ (λ i. map (λ v. record { variable = record { at = v }; low = (slice_index_or (s.variables i) v no_variable).low; high = (slice_index_or (s.variables i) v no_variable).high }) (left_same i));
    leads = subst (λ (b : Bool). LeadsFor n a b pr.leader) (sym single) (no_leads pr.leader (subst (λ (b : Bool). LeadsFor m a b pr.leader) single h.leads));
    blocks = blocks_same 0 a.blocks pr.blocks h.blocks;
    duals = h.duals;
    visols = h.visols;
  }

  -- ---- expansions
  expanded_tree : (t u : Tree) → t.nodes ≡ u.nodes → IsExpanded t → IsExpanded u
  expanded_tree t u e (q, h) = (
    q,
    record {
      free = subst (λ (ns : List Node). AllFree ns (length ns)) e h.free;
      polynomial = subst (λ (ns : List Node). IsPolynomial (expression_of ns)) e h.polynomial;
      coefficients = subst (λ (ns : List Node). HasForm q (form (expression_of ns))) e h.coefficients;
      small = h.small;
    },
  )

  pub expand_same : AllExpand m → AllExpand n
  expand_same h e f l is =
      let t = twin_at e f is in
      let both = h e t.other (subst (λ (k : ℕ). e < k) (sym (lengths_same m.equations n.equations s.equations)) l) t.is in
      (expanded_tree t.other.left f.left t.same.left both.0, expanded_tree t.other.right f.right t.same.right both.1)

  -- ---- values
  spread_from_same : (values : List Frac) (at next : ℕ) (xs : List Variable) → spread_from m a values at next xs ≡ spread_from n a values at next xs
  spread_from_same values at next [] = refl
  spread_from_same values at next (x ∷ xs) =
      let d = defined_same at in
      let u = spread_from_same values (at + 1) next xs in
      let w = spread_from_same values (at + 1) (next + 1) xs in
      λ i. cond (d i) (whole 0 ∷ u i) (entry values next ∷ w i)

  spread_same : (values : List Frac) → spread m a values ≡ spread n a values
  spread_same values = spread_from_same values 0 0 m.variables ∙ ap (spread_from n a values 0 0) s.variables

  module _ (pr : AgentProblem) (xs : List Frac) (v : ℕ) (f : Formula) where
    fold_on : IsFold m a pr xs v f → IsFold n a pr xs v f
    fold_on (inl h) = inl (record { number = h.number; defines = sym (defined_of_same (block h.number) v) ∙ h.defines; part = h.part; is = h.is; goal = h.goal; purpose = h.purpose; fold = h.fold })
    fold_on (inr h) = inr (record { defines = sym (defined_of_same leader v) ∙ h.defines; part = h.part; is = h.is; fold = h.fold })

    fold_back : IsFold n a pr xs v f → IsFold m a pr xs v f
    fold_back (inl h) = inl (record { number = h.number; defines = defined_of_same (block h.number) v ∙ h.defines; part = h.part; is = h.is; goal = h.goal; purpose = h.purpose; fold = h.fold })
    fold_back (inr h) = inr (record { defines = defined_of_same leader v ∙ h.defines; part = h.part; is = h.is; fold = h.fold })

  count_same : length m.variables ≡ length n.variables
  count_same = ap (λ (xs : List Variable). length xs) s.variables

  meets_definition : (p : Point) (k : Party) → ((e : ℕ) (q : Equation) → slice_get m.equations e ≡ Some q → defines m a k e ≡ true → MeetsEquation p q) → (e : ℕ) (q : Equation) → slice_get n.equations e ≡ Some q → defines n a k e ≡ true → MeetsEquation p q
  meets_definition p k h e q is d =
      let t = twin_at e q is in
      meets_same t.other q t.same p (h e t.other t.is (defines_same k e ∙ d))

  filled_same : (values : List Frac) (p : Point) → IsFilled m a values p → IsFilled n a values p
  filled_same values p h = record {
    fits = h.fits ∙ count_same;
    definitions = record {
      blocks = λ k l. meets_definition p (block k) (h.definitions.blocks k l);
      leads = λ b. meets_definition p leader (h.definitions.leads b);
    };
    left = λ j l. subst (λ (ls : List ℕ). SameRatio (coordinate p (slice_index_or ls j 0)) (as_ratio (entry values j))) left_same (h.left j l);
  }

  pub fill_same : (pr : AgentProblem) (values : List Frac) (r : Result (List Frac) FillFault) → FillGives m a pr values r → FillGives n a pr values r
  fill_same pr values (Ok list) h = record {
    count = h.count ∙ count_same;
    left = λ j l. subst (λ (ls : List ℕ). entry list (slice_index_or ls j 0) ≡ entry values j) left_same (h.left j l);
    points = λ p stands. filled_same values p (h.points p stands);
    narrow = λ v f l fold wide. h.narrow v f (subst (λ (k : ℕ). v < k) (sym count_same) l) (fold_back pr (spread m a values) v f (subst (λ (xs : List Frac). IsFold n a pr xs v f) (sym (spread_same values)) fold)) wide;
  }
  fill_same pr values (Err (FillWords.Wide w)) h = record {
    inside = subst (λ (k : ℕ). w.at < k) count_same h.inside;
    formula = h.formula;
    fold = subst (λ (xs : List Frac). IsFold n a pr xs w.at h.formula) (spread_same values) (fold_on pr (spread m a values) w.at h.formula h.fold);
    wide = h.wide;
    before = λ v f l fold. h.before v f l (fold_back pr (spread m a values) v f (subst (λ (xs : List Frac). IsFold n a pr xs v f) (sym (spread_same values)) fold));
  }
  fill_same pr values (Err FillWords.NoMemory) h = tt

-- ---- texts
lines_same : (names : List (List ℕ)) (es fs : List Equation) (t : List ℕ) → SameEquations es fs → EquationLines names es t → EquationLines names fs t
lines_same names [] [] t s h = h
lines_same names [] (f ∷ fs) t s h = absurd s
lines_same names (e ∷ es) [] t s h = absurd s
lines_same names (x ∷ xs) (f ∷ fs) v s (an_equation e es left right t u rest h k p q more) =
    subst₂ (λ (name : List ℕ) (r : Relation). EquationLines names (f ∷ fs) (name ++ codes ".. " ++ t ++ relation_text r ++ u ++ codes ";\n" ++ rest)) (sym s.0.name) (sym s.0.relation)
    (an_equation f fs left right t u rest (sym s.0.left ∙ h) (sym s.0.right ∙ k) p q (lines_same names es fs rest s.1 more))

pub canonical_same : (m n : Model) (t : List ℕ) → SameModel m n → IsCanonical m t → IsCanonical n t
canonical_same m n t s h = record {
  equations = h.equations;
  bounds = h.bounds;
  equation_lines = subst (λ (xs : List Variable). EquationLines (map (λ (v : Variable). v.name) xs) n.equations h.equations) s.variables (lines_same (variable_names m) m.equations n.equations h.equations s.equations h.equation_lines);
  bound_lines = subst (λ (xs : List Variable). BoundLines xs h.bounds) s.variables h.bound_lines;
  is =
      let names : variable_names m ≡ variable_names n = ap (λ (xs : List Variable). map (λ (v : Variable). v.name) xs) s.variables in
      let others = names_same m.equations n.equations s.equations in
      h.is ∙ (λ i. names_line (codes "Variables ") (names i) ++ names_line (codes "Equations ") (others i) ++ h.equations ++ h.bounds ++ (codes "Model " ++ s.name i ++ codes " / all /;\nSolve " ++ s.name i ++ codes " using EMP" ++ goal_text (names i) (s.goal i) ++ codes ";\n"));
}

module _ (m n : Model) (s : SameModel m n) where
  variable_word_same : (v : VarId) → variable_word m v ≡ variable_word n v
  variable_word_same v = ap (λ (xs : List Variable). codes " " ++ slice_index_or (map (λ (x : Variable). x.name) xs) v.at []) s.variables

  equation_word_same : (e : EquId) → equation_word m e ≡ equation_word n e
  equation_word_same e = ap (λ (names : List (List ℕ)). codes " " ++ slice_index_or names e.at []) (names_same m.equations n.equations s.equations)

  head_same : (b : Bool) (vs : List VarId) → head_line m b vs ≡ head_line n b vs
  head_same true vs = λ i. codes "bilevel" ++ flat_map (λ (v : VarId). variable_word_same v i) vs ++ codes "\n"
  head_same false vs = refl

  block_same : (b : Block) → block_line m b ≡ block_line n b
  block_same (Agent sense objective vars equs) = λ i. sense_word sense ++ variable_word_same objective i ++ flat_map (λ (v : VarId). variable_word_same v i) vars ++ flat_map (λ (e : EquId). equation_word_same e i) equs ++ codes "\n"
  block_same (Vi zeros pairs equs) =
      λ i. codes "vi" ++ flat_map (λ (v : VarId). variable_word_same v i) zeros ++ flat_map (λ (q : EquId × VarId). equation_word_same q.0 i ++ variable_word_same q.1 i) pairs ++ flat_map (λ (e : EquId). equation_word_same e i) equs ++ codes "\n"

  tie_same : (word : List ℕ) (d : VarId × EquId) → tie_line word m d ≡ tie_line word n d
  tie_same word d = λ i. word ++ variable_word_same d.0 i ++ equation_word_same d.1 i ++ codes "\n"

  visol_same : (e : EquId) → visol_line m e ≡ visol_line n e
  visol_same e = λ i. codes "visol" ++ equation_word_same e i ++ codes "\n"

  pub info_same : (a : Annot) → info_text m a ≡ info_text n a
  info_same a =
      λ i. head_same a.bilevel a.leader i ++ flat_map (λ (b : Block). block_same b i) a.blocks ++ flat_map (λ (d : VarId × EquId). tie_same (codes "dualvar") d i) a.duals ++ flat_map (λ (e : EquId). visol_same e i) a.visols ++ flat_map (λ (d : VarId × EquId). tie_same (codes "implicit") d i) a.implicits

  pub value_line_same : (w : VarId) → value_line m w ≡ value_line n w
  value_line_same w = ap (λ (xs : List Variable). codes "error 19: wide value " ++ take 63 (slice_index_or (map (λ (x : Variable). x.name) xs) w.at []) ++ codes "\n") s.variables
