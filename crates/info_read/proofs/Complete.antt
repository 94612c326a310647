-- What stands for an annotation is read, and gives it.
use Rattle.std.proofs.Common.{◌≡◌, ◌+◌, ◌<◌, true, false, cond, List, [], ◌∷◌, ◌++◌, length, Some, None, refl, ap, ◌∙◌, append_assoc, arith}
use Rattle.emp_ast.specs.declared.tree.VarId.{VarId}
use Rattle.emp_ast.specs.declared.tree.EquId.{EquId}
use Rattle.emp_ast.specs.declared.model.Sense.{Sense}
use Rattle.emp_ast.specs.declared.annot.Block.TheVariants.{Agent as AgentBlock, Vi as ViBlock}
use Rattle.emp_ast.specs.declared.annot.Annot.{Annot}
use Rattle.info_read.specs.declared.lexeme.Sort.{Sort}
use Rattle.info_read.specs.declared.lexeme.Sort.TheVariants.{Equilibrium, Agent, Vi, Dualvar, Visol, Implicit, Variable, Equation}
use Rattle.info_read.specs.declared.lexeme.Lexeme.{Lexeme}
use Rattle.info_read.specs.declared.stage.Stage.{Stage}
use Rattle.info_read.specs.declared.stage.Stage.TheVariants.{Head, Leader, Objective, AgentVariables, AgentEquations, ViStart, Zeros, Function, Pairs, Constraints, DualStart, DualEquation, Duals, VisolStart, Visols, ImplicitStart, ImplicitEquation, Implicits}
use Rattle.info_read.specs.declared.draft.Draft.{Draft}
use Rattle.info_read.specs.Grammar.{AreVariables, no_variables, one_variable_more, AreEquations, no_equations, one_equation_more, ArePairs, no_pairs, one_pair_more, AreTies, no_ties, one_tie_more, Item, block, duals, visols, implicits, IsItem, is_agent, is_vi, are_duals, are_visols, are_implicits, nothing_yet, with_item, HasItems, equilibrium, bilevel, one_item_more}
use Rattle.info_read.specs.Machine.{draft, item_stage, ends_item, closed, step, step_by, start_draft, run}
use Rattle.info_read.proofs.Runs.{onward, first, one}

-- the machine takes the lexemes, an item may end behind them, and the annotation is this one
pub record Ends (d : Draft) (ts : List Lexeme) (a : Annot) : Type 0 where
  pub end : Draft
  pub runs : run d ts ≡ Some end
  pub ends : ends_item end.stage ≡ true
  pub gives : closed end ≡ a

-- ---- the leader's variables
leader_variables : {ts : List Lexeme} {vs : List VarId} → AreVariables ts vs → run (draft Leader (nothing_yet true []) [] [] []) ts ≡ Some (draft Leader (nothing_yet true vs) [] [] [])
leader_variables no_variables = refl
leader_variables (one_variable_more ts vs t v h e) = onward _ _ _ ts (t ∷ []) (leader_variables h) (one _ _ t (Variable v) e refl)

-- ---- agents
module _ (a : Annot) (sense : Sense) (objective : VarId) where
  agent_variables : {ts : List Lexeme} {vs : List VarId} → AreVariables ts vs → run (draft (AgentVariables sense objective) a [] [] []) ts ≡ Some (draft (AgentVariables sense objective) a vs [] [])
  agent_variables no_variables = refl
  agent_variables (one_variable_more ts vs t v h e) = onward _ _ _ ts (t ∷ []) (agent_variables h) (one _ _ t (Variable v) e refl)

  data IsAgentStage : Stage → List EquId → Type 0 where
    without : IsAgentStage (AgentVariables sense objective) []
    with_equations : (es : List EquId) → IsAgentStage (AgentEquations sense objective) es

  module _ (vs : List VarId) where
    record AgentRuns (ts : List Lexeme) (es : List EquId) : Type 0 where
      stage : Stage
      is : IsAgentStage stage es
      runs : run (draft (AgentVariables sense objective) a vs [] []) ts ≡ Some (draft stage a vs [] es)

    agent_step : (s : Stage) (es : List EquId) (e : EquId) → IsAgentStage s es → step (draft s a vs [] es) (Equation e) ≡ Some (draft (AgentEquations sense objective) a vs [] (es ++ e ∷ []))
    agent_step s es e without = refl
    agent_step s _ e (with_equations es) = refl

    agent_equations : {ts : List Lexeme} {es : List EquId} → AreEquations ts es → AgentRuns ts es
    agent_equations no_equations = record { stage = AgentVariables sense objective; is = without; runs = refl }
    agent_equations (one_equation_more ts es t e h q) =
        let r = agent_equations h in
        record { stage = AgentEquations sense objective; is = with_equations (es ++ e ∷ []); runs = onward _ _ _ ts (t ∷ []) r.runs (one _ _ t (Equation e) q (agent_step r.stage es e r.is)) }

    agent_ends : (s : Stage) (es : List EquId) → IsAgentStage s es → (ends_item s ≡ true) × (closed (draft s a vs [] es) ≡ with_item a (block (AgentBlock sense objective vs es)))
    agent_ends s es without = (refl, refl)
    agent_ends s _ (with_equations es) = (refl, refl)

-- ---- variational inequalities
module _ (a : Annot) where
  -- behind variables and pairs
  data IsViStage : Stage → List VarId → List (EquId × VarId) → Type 0 where
    no_name : IsViStage ViStart [] []
    variables : (vs : List VarId) → IsViStage Zeros vs []
    pairs : (vs : List VarId) (ps : List (EquId × VarId)) → IsViStage Pairs vs ps

  record ViRuns (d : Draft) (ts : List Lexeme) (vs : List VarId) (ps : List (EquId × VarId)) : Type 0 where
    stage : Stage
    is : IsViStage stage vs ps
    runs : run d ts ≡ Some (draft stage a vs ps [])

  variable_step : (s : Stage) (vs : List VarId) (v : VarId) → IsViStage s vs [] → (s ≡ Pairs → ⊥) → step (draft s a vs [] []) (Variable v) ≡ Some (draft Zeros a (vs ++ v ∷ []) [] [])
  variable_step s vs v no_name n = refl
  variable_step s _ v (variables vs) n = refl
  variable_step s _ v (pairs vs ps) n = absurd (n refl)

  record ZeroRuns (ts : List Lexeme) (vs : List VarId) : Type 0 where
    vi : ViRuns (draft ViStart a [] [] []) ts vs []
    early : vi.stage ≡ Pairs → ⊥

  vi_variables : {ts : List Lexeme} {vs : List VarId} → AreVariables ts vs → ZeroRuns ts vs
  vi_variables no_variables = record { vi = record { stage = ViStart; is = no_name; runs = refl }; early = λ e. cc }
  vi_variables (one_variable_more ts vs t v h e) =
      let r = vi_variables h in
      record {
        vi = record { stage = Zeros; is = variables (vs ++ v ∷ []); runs = onward _ _ _ ts (t ∷ []) r.vi.runs (one _ _ t (Variable v) e (variable_step r.vi.stage vs v r.vi.is r.early)) };
        early = λ e. cc;
      }

  function_step : (s : Stage) (vs : List VarId) (ps : List (EquId × VarId)) (e : EquId) → IsViStage s vs ps → step (draft s a vs ps []) (Equation e) ≡ Some (draft (Function e) a vs ps [])
  function_step s vs ps e no_name = refl
  function_step s _ ps e (variables vs) = refl
  function_step s _ _ e (pairs vs ps) = refl

  vi_pairs : {us : List Lexeme} {ps : List (EquId × VarId)} (s : Stage) (vs : List VarId) → IsViStage s vs [] → ArePairs us ps → ViRuns (draft s a vs [] []) us vs ps
  vi_pairs s vs is no_pairs = record { stage = s; is = is; runs = refl }
  vi_pairs s vs is (one_pair_more us ps t u e v h p q) =
      let r = vi_pairs s vs is h in
      record {
        stage = Pairs;
        is = pairs vs (ps ++ (e, v) ∷ []);
        runs =
            onward _ _ _ us (t ∷ u ∷ []) r.runs
            (first _ _ _ t (u ∷ []) (ap (step (draft r.stage a vs ps [])) p ∙ function_step r.stage vs ps e r.is) (one (draft (Function e) a vs ps []) _ u (Variable v) q refl));
      }

  module _ (s : Stage) (vs : List VarId) (ps : List (EquId × VarId)) (is : IsViStage s vs ps) where
    -- behind equations too, where `held` are those that are no longer in doubt
    data IsConstrained : Stage → List EquId → List EquId → Type 0 where
      none_yet : IsConstrained s [] []
      in_doubt : (e : EquId) → IsConstrained (Function e) [] (e ∷ [])
      several : (es : List EquId) → IsConstrained Constraints es es

    record ConstraintRuns (ts : List Lexeme) (es : List EquId) : Type 0 where
      stage : Stage
      held : List EquId
      is_constrained : IsConstrained stage held es
      runs : run (draft s a vs ps []) ts ≡ Some (draft stage a vs ps held)

    one_more : (ts : List Lexeme) {es : List EquId} (st : Stage) (held : List EquId) (t : Lexeme) (e : EquId) → IsConstrained st held es → t.sort ≡ Equation e → run (draft s a vs ps []) ts ≡ Some (draft st a vs ps held) → ConstraintRuns (ts ++ t ∷ []) (es ++ e ∷ [])
    one_more ts st held t e none_yet q r = record { stage = Function e; held = []; is_constrained = in_doubt e; runs = onward _ _ _ ts (t ∷ []) r (one _ _ t (Equation e) q (function_step s vs ps e is)) }
    one_more ts st held t e (in_doubt f) q r = record { stage = Constraints; held = f ∷ e ∷ []; is_constrained = several (f ∷ e ∷ []); runs = onward _ _ _ ts (t ∷ []) r (one _ _ t (Equation e) q refl) }
    one_more ts st held t e (several es) q r = record { stage = Constraints; held = es ++ e ∷ []; is_constrained = several (es ++ e ∷ []); runs = onward _ _ _ ts (t ∷ []) r (one _ _ t (Equation e) q refl) }

    vi_equations : {ts : List Lexeme} {es : List EquId} → AreEquations ts es → ConstraintRuns ts es
    vi_equations no_equations = record { stage = s; held = []; is_constrained = none_yet; runs = refl }
    vi_equations (one_equation_more ts es t e h q) = let r = vi_equations h in one_more ts r.stage r.held t e r.is_constrained q r.runs

    bare_ends : (st : Stage) (ws : List VarId) (qs : List (EquId × VarId)) → IsViStage st ws qs → 0 < length ws + length qs + 0 → (ends_item st ≡ true) × (closed (draft st a ws qs []) ≡ with_item a (block (ViBlock ws qs [])))
    bare_ends st ws qs no_name h = absurd (omega arith)
    bare_ends st _ qs (variables ws) h = (refl, refl)
    bare_ends st _ _ (pairs ws qs) h = (refl, refl)

    vi_ends : (st : Stage) (held es : List EquId) → IsConstrained st held es → 0 < length vs + length ps + length es → (ends_item st ≡ true) × (closed (draft st a vs ps held) ≡ with_item a (block (ViBlock vs ps es)))
    vi_ends st held es none_yet h = bare_ends s vs ps is h
    vi_ends st held es (in_doubt e) h = (refl, refl)
    vi_ends st held _ (several es) h = (refl, refl)

-- ---- dual variables, implicit variables and equations with one multiplier
module _ (a : Annot) where
  pub more_duals : (ps qs : List (VarId × EquId)) → with_item (with_item a (duals ps)) (duals qs) ≡ with_item a (duals (ps ++ qs))
  more_duals ps qs = ap (λ x. record { bilevel = a.bilevel; leader = a.leader; blocks = a.blocks; duals = x; visols = a.visols; implicits = a.implicits }) (append_assoc a.duals ps qs)

  pub more_visols : (es fs : List EquId) → with_item (with_item a (visols es)) (visols fs) ≡ with_item a (visols (es ++ fs))
  more_visols es fs = ap (λ x. record { bilevel = a.bilevel; leader = a.leader; blocks = a.blocks; duals = a.duals; visols = x; implicits = a.implicits }) (append_assoc a.visols es fs)

  pub more_implicits : (ps qs : List (VarId × EquId)) → with_item (with_item a (implicits ps)) (implicits qs) ≡ with_item a (implicits (ps ++ qs))
  more_implicits ps qs = ap (λ x. record { bilevel = a.bilevel; leader = a.leader; blocks = a.blocks; duals = a.duals; visols = a.visols; implicits = x }) (append_assoc a.implicits ps qs)

  data IsDualStage : Stage → Annot → List (VarId × EquId) → Type 0 where
    no_dual : IsDualStage DualStart a []
    some_duals : (ps : List (VarId × EquId)) → IsDualStage Duals (with_item a (duals ps)) ps

  data IsImplicitStage : Stage → Annot → List (VarId × EquId) → Type 0 where
    no_implicit : IsImplicitStage ImplicitStart a []
    some_implicits : (ps : List (VarId × EquId)) → IsImplicitStage Implicits (with_item a (implicits ps)) ps

  data IsVisolStage : Stage → Annot → List EquId → Type 0 where
    no_visol : IsVisolStage VisolStart a []
    some_visols : (es : List EquId) → IsVisolStage Visols (with_item a (visols es)) es

  record ListRuns (start : Stage) (ts : List Lexeme) (P : Stage → Annot → Type 0) : Type 0 where
    stage : Stage
    annot : Annot
    is : P stage annot
    runs : run (draft start a [] [] []) ts ≡ Some (draft stage annot [] [] [])

  dual_steps : (s : Stage) (b : Annot) (ps : List (VarId × EquId)) (t u : Lexeme) (v : VarId) (e : EquId) → IsDualStage s b ps → t.sort ≡ Variable v → u.sort ≡ Equation e → run (draft s b [] [] []) (t ∷ u ∷ []) ≡ Some (draft Duals (with_item a (duals (ps ++ (v, e) ∷ []))) [] [] [])
  dual_steps s b ps t u v e no_dual p q = first _ (draft (DualEquation v) a [] [] []) _ t (u ∷ []) (ap (step (draft DualStart a [] [] [])) p) (one (draft (DualEquation v) a [] [] []) _ u (Equation e) q refl)
  dual_steps s b _ t u v e (some_duals ps) p q =
      first _ (draft (DualEquation v) (with_item a (duals ps)) [] [] []) _ t (u ∷ []) (ap (step (draft Duals (with_item a (duals ps)) [] [] [])) p)
      (one (draft (DualEquation v) (with_item a (duals ps)) [] [] []) _ u (Equation e) q (ap (λ x. Some (draft Duals x [] [] [])) (more_duals ps ((v, e) ∷ []))))

  implicit_steps : (s : Stage) (b : Annot) (ps : List (VarId × EquId)) (t u : Lexeme) (v : VarId) (e : EquId) → IsImplicitStage s b ps → t.sort ≡ Variable v → u.sort ≡ Equation e → run (draft s b [] [] []) (t ∷ u ∷ []) ≡ Some (draft Implicits (with_item a (implicits (ps ++ (v, e) ∷ []))) [] [] [])
  implicit_steps s b ps t u v e no_implicit p q =
      first _ (draft (ImplicitEquation v) a [] [] []) _ t (u ∷ []) (ap (step (draft ImplicitStart a [] [] [])) p) (one (draft (ImplicitEquation v) a [] [] []) _ u (Equation e) q refl)
  implicit_steps s b _ t u v e (some_implicits ps) p q =
      first _ (draft (ImplicitEquation v) (with_item a (implicits ps)) [] [] []) _ t (u ∷ []) (ap (step (draft Implicits (with_item a (implicits ps)) [] [] [])) p)
      (one (draft (ImplicitEquation v) (with_item a (implicits ps)) [] [] []) _ u (Equation e) q (ap (λ x. Some (draft Implicits x [] [] [])) (more_implicits ps ((v, e) ∷ []))))

  visol_step : (s : Stage) (b : Annot) (es : List EquId) (e : EquId) → IsVisolStage s b es → step (draft s b [] [] []) (Equation e) ≡ Some (draft Visols (with_item a (visols (es ++ e ∷ []))) [] [] [])
  visol_step s b es e no_visol = refl
  visol_step s b _ e (some_visols es) = ap (λ x. Some (draft Visols x [] [] [])) (more_visols es (e ∷ []))

  dual_ties : {ts : List Lexeme} {ps : List (VarId × EquId)} → AreTies ts ps → ListRuns DualStart ts (λ s b. IsDualStage s b ps)
  dual_ties no_ties = record { stage = DualStart; annot = a; is = no_dual; runs = refl }
  dual_ties (one_tie_more ts ps t u v e h p q) =
      let r = dual_ties h in
      record { stage = Duals; annot = with_item a (duals (ps ++ (v, e) ∷ [])); is = some_duals (ps ++ (v, e) ∷ []); runs = onward _ _ _ ts (t ∷ u ∷ []) r.runs (dual_steps r.stage r.annot ps t u v e r.is p q) }

  implicit_ties : {ts : List Lexeme} {ps : List (VarId × EquId)} → AreTies ts ps → ListRuns ImplicitStart ts (λ s b. IsImplicitStage s b ps)
  implicit_ties no_ties = record { stage = ImplicitStart; annot = a; is = no_implicit; runs = refl }
  implicit_ties (one_tie_more ts ps t u v e h p q) =
      let r = implicit_ties h in
      record { stage = Implicits; annot = with_item a (implicits (ps ++ (v, e) ∷ [])); is = some_implicits (ps ++ (v, e) ∷ []); runs = onward _ _ _ ts (t ∷ u ∷ []) r.runs (implicit_steps r.stage r.annot ps t u v e r.is p q) }

  visol_equations : {ts : List Lexeme} {es : List EquId} → AreEquations ts es → ListRuns VisolStart ts (λ s b. IsVisolStage s b es)
  visol_equations no_equations = record { stage = VisolStart; annot = a; is = no_visol; runs = refl }
  visol_equations (one_equation_more ts es t e h q) =
      let r = visol_equations h in
      record { stage = Visols; annot = with_item a (visols (es ++ e ∷ [])); is = some_visols (es ++ e ∷ []); runs = onward _ _ _ ts (t ∷ []) r.runs (one _ _ t (Equation e) q (visol_step r.stage r.annot es e r.is)) }

  duals_end : (s : Stage) (b : Annot) (ps : List (VarId × EquId)) → IsDualStage s b ps → 0 < length ps → (ends_item s ≡ true) × (closed (draft s b [] [] []) ≡ with_item a (duals ps))
  duals_end s b ps no_dual h = absurd (omega arith)
  duals_end s b _ (some_duals ps) h = (refl, refl)

  implicits_end : (s : Stage) (b : Annot) (ps : List (VarId × EquId)) → IsImplicitStage s b ps → 0 < length ps → (ends_item s ≡ true) × (closed (draft s b [] [] []) ≡ with_item a (implicits ps))
  implicits_end s b ps no_implicit h = absurd (omega arith)
  implicits_end s b _ (some_implicits ps) h = (refl, refl)

  visols_end : (s : Stage) (b : Annot) (es : List EquId) → IsVisolStage s b es → 0 < length es → (ends_item s ≡ true) × (closed (draft s b [] [] []) ≡ with_item a (visols es))
  visols_end s b es no_visol h = absurd (omega arith)
  visols_end s b _ (some_visols es) h = (refl, refl)

-- ---- items
pub begins : (d : Draft) (s : Stage) (q : Sort) (t : Lexeme) → t.sort ≡ q → item_stage q ≡ Some s → ends_item d.stage ≡ true → step d t.sort ≡ Some (draft s (closed d) [] [] [])
begins d s q t p h k = ap (step d) p ∙ (ap (λ o. step_by o q d) h ∙ ap (λ b. cond b (Some (draft s (closed d) [] [] [])) None) k)

module _ (d : Draft) (ends : ends_item d.stage ≡ true) where
  item_ends : {us : List Lexeme} {i : Item} → IsItem us i → Ends d us (with_item (closed d) i)
  item_ends (is_agent k t sense objective ts us vs es p q h g) =
      let a = closed d in
      let r = agent_equations a sense objective vs g in
      let e = agent_ends a sense objective vs r.stage es r.is in
      record {
        end = draft r.stage a vs [] es;
        runs =
            first d _ _ k (t ∷ ts ++ us) (begins d (Objective sense) (Agent sense) k p refl ends)
            (first _ (draft (AgentVariables sense objective) a [] [] []) _ t (ts ++ us) (ap (step (draft (Objective sense) a [] [] [])) q)
            (onward _ _ _ ts us (agent_variables a sense objective h) r.runs));
        ends = e.0;
        gives = e.1;
      }
  item_ends (is_vi k ts us ws vs ps es p h g f some) =
      let a = closed d in
      let z = vi_variables a h in
      let r = vi_pairs a z.vi.stage vs z.vi.is g in
      let c = vi_equations a r.stage vs ps r.is f in
      let e = vi_ends a r.stage vs ps r.is c.stage c.held es c.is_constrained some in
      record {
        end = draft c.stage a vs ps c.held;
        runs = first d _ _ k (ts ++ us ++ ws) (begins d ViStart Vi k p refl ends) (onward _ _ _ (ts ++ us) ws (onward _ _ _ ts us z.vi.runs r.runs) c.runs);
        ends = e.0;
        gives = e.1;
      }
  item_ends (are_duals k ts ps p h some) =
      let a = closed d in
      let r = dual_ties a h in
      let e = duals_end a r.stage r.annot ps r.is some in
      record { end = draft r.stage r.annot [] [] []; runs = first d _ _ k ts (begins d DualStart Dualvar k p refl ends) r.runs; ends = e.0; gives = e.1 }
  item_ends (are_visols k ts es p h some) =
      let a = closed d in
      let r = visol_equations a h in
      let e = visols_end a r.stage r.annot es r.is some in
      record { end = draft r.stage r.annot [] [] []; runs = first d _ _ k ts (begins d VisolStart Visol k p refl ends) r.runs; ends = e.0; gives = e.1 }
  item_ends (are_implicits k ts ps p h some) =
      let a = closed d in
      let r = implicit_ties a h in
      let e = implicits_end a r.stage r.annot ps r.is some in
      record { end = draft r.stage r.annot [] [] []; runs = first d _ _ k ts (begins d ImplicitStart Implicit k p refl ends) r.runs; ends = e.0; gives = e.1 }

-- ---- annotations
pub complete : {ts : List Lexeme} {a : Annot} → HasItems ts a → Ends start_draft ts a
complete (equilibrium t e) = record { end = draft Head (nothing_yet false []) [] [] []; runs = one start_draft _ t Equilibrium e refl; ends = refl; gives = refl }
complete (bilevel t ts leader e h) = record { end = draft Leader (nothing_yet true leader) [] [] []; runs = first start_draft (draft Leader (nothing_yet true []) [] [] []) _ t ts (ap (step start_draft) e) (leader_variables h); ends = refl; gives = refl }
complete (one_item_more ts us a i h k) =
    let r = complete h in
    let s = item_ends r.end r.ends k in
    record { end = s.end; runs = onward _ _ _ ts us r.runs s.runs; ends = s.ends; gives = s.gives ∙ ap (λ x. with_item x i) r.gives }
