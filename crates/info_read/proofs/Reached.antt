-- What the machine has read is the beginning of an annotation.
use Rattle.std.proofs.Common.{◌≡◌, ◌<◌, Bool, true, false, cond, List, [], ◌∷◌, ◌++◌, length, Option, Some, None, refl, sym, ap, subst, ◌∙◌, append_assoc, append-nil, arith}
use Rattle.std.proofs.lemmas.List.{length-append}
use Rattle.emp_ast.specs.declared.tree.VarId.{VarId}
use Rattle.emp_ast.specs.declared.tree.EquId.{EquId}
use Rattle.emp_ast.specs.declared.model.Sense.{Sense}
use Rattle.emp_ast.specs.declared.annot.Block.TheVariants.{Agent as AgentBlock, Vi as ViBlock}
use Rattle.emp_ast.specs.declared.annot.Annot.{Annot}
use Rattle.info_read.specs.declared.lexeme.Sort.{Sort}
use Rattle.info_read.specs.declared.lexeme.Sort.TheVariants.{Equilibrium, Bilevel, Agent, Vi, Dualvar, Visol, Implicit, Reserved, Variable, Equation, Unknown, Mark}
use Rattle.info_read.specs.declared.lexeme.Lexeme.{Lexeme}
use Rattle.info_read.specs.declared.stage.Stage.{Stage}
use Rattle.info_read.specs.declared.stage.Stage.TheVariants.{Start, Head, Leader, Objective, AgentVariables, AgentEquations, ViStart, Zeros, Function, Pairs, Constraints, DualStart, DualEquation, Duals, VisolStart, Visols, ImplicitStart, ImplicitEquation, Implicits}
use Rattle.info_read.specs.declared.stage.Note.{Note}
use Rattle.info_read.specs.declared.stage.Note.TheVariants.{Nothing, Bilevel as NoteBilevel}
use Rattle.info_read.specs.declared.stage.Move.{Move}
use Rattle.info_read.specs.declared.stage.Move.TheVariants.{Fail}
use Rattle.info_read.specs.declared.draft.Draft.{Draft}
use Rattle.info_read.specs.Grammar.{AreVariables, no_variables, one_variable_more, AreEquations, no_equations, one_equation_more, ArePairs, no_pairs, one_pair_more, AreTies, no_ties, one_tie_more, Item, block, duals, visols, implicits, IsItem, is_agent, is_vi, are_duals, are_visols, are_implicits, nothing_yet, with_item, HasItems, equilibrium, bilevel, one_item_more}
use Rattle.info_read.specs.Machine.{draft, head_move, ends_item, closed, by_move, step, start_draft, run, then}
use Rattle.info_read.proofs.Complete.{more_duals, more_visols, more_implicits}

-- ---- items
-- the lexemes begin an item behind items that give `a`, and the draft holds what they say
pub data IsPart (a : Annot) : List Lexeme → Draft → Type 0 where
  objective_next : (k : Lexeme) (sense : Sense) → k.sort ≡ Agent sense → IsPart a (k ∷ []) (draft (Objective sense) a [] [] [])
  agent_variables : (k t : Lexeme) (sense : Sense) (o : VarId) (ts : List Lexeme) (vs : List VarId) → k.sort ≡ Agent sense → t.sort ≡ Variable o → AreVariables ts vs → IsPart a (k ∷ t ∷ ts) (draft (AgentVariables sense o) a vs [] [])
  agent_equations : (k t : Lexeme) (sense : Sense) (o : VarId) (ts us : List Lexeme) (vs : List VarId) (es : List EquId) → k.sort ≡ Agent sense → t.sort ≡ Variable o → AreVariables ts vs → AreEquations us es → IsPart a (k ∷ t ∷ ts ++ us) (draft (AgentEquations sense o) a vs [] es)
  vi_start : (k : Lexeme) → k.sort ≡ Vi → IsPart a (k ∷ []) (draft ViStart a [] [] [])
  vi_zeros : (k : Lexeme) (ts : List Lexeme) (vs : List VarId) → k.sort ≡ Vi → AreVariables ts vs → 0 < length vs → IsPart a (k ∷ ts) (draft Zeros a vs [] [])
  vi_function : (k t : Lexeme) (e : EquId) (ts us : List Lexeme) (vs : List VarId) (ps : List (EquId × VarId)) → k.sort ≡ Vi → AreVariables ts vs → ArePairs us ps → t.sort ≡ Equation e → IsPart a (k ∷ ts ++ us ++ t ∷ []) (draft (Function e) a vs ps [])
  vi_pairs : (k : Lexeme) (ts us : List Lexeme) (vs : List VarId) (ps : List (EquId × VarId)) → k.sort ≡ Vi → AreVariables ts vs → ArePairs us ps → 0 < length ps → IsPart a (k ∷ ts ++ us) (draft Pairs a vs ps [])
  vi_constraints : (k : Lexeme) (ts us ws : List Lexeme) (vs : List VarId) (ps : List (EquId × VarId)) (es : List EquId) → k.sort ≡ Vi → AreVariables ts vs → ArePairs us ps → AreEquations ws es → 0 < length es → IsPart a (k ∷ ts ++ us ++ ws) (draft Constraints a vs ps es)
  dual_start : (k : Lexeme) → k.sort ≡ Dualvar → IsPart a (k ∷ []) (draft DualStart a [] [] [])
  dual_variable : (k t : Lexeme) (v : VarId) (ts : List Lexeme) (ps : List (VarId × EquId)) → k.sort ≡ Dualvar → AreTies ts ps → t.sort ≡ Variable v → IsPart a (k ∷ ts ++ t ∷ []) (draft (DualEquation v) (with_item a (duals ps)) [] [] [])
  dual_ties : (k : Lexeme) (ts : List Lexeme) (ps : List (VarId × EquId)) → k.sort ≡ Dualvar → AreTies ts ps → 0 < length ps → IsPart a (k ∷ ts) (draft Duals (with_item a (duals ps)) [] [] [])
  visol_start : (k : Lexeme) → k.sort ≡ Visol → IsPart a (k ∷ []) (draft VisolStart a [] [] [])
  visol_equations : (k : Lexeme) (ts : List Lexeme) (es : List EquId) → k.sort ≡ Visol → AreEquations ts es → 0 < length es → IsPart a (k ∷ ts) (draft Visols (with_item a (visols es)) [] [] [])
  implicit_start : (k : Lexeme) → k.sort ≡ Implicit → IsPart a (k ∷ []) (draft ImplicitStart a [] [] [])
  implicit_variable : (k t : Lexeme) (v : VarId) (ts : List Lexeme) (ps : List (VarId × EquId)) → k.sort ≡ Implicit → AreTies ts ps → t.sort ≡ Variable v → IsPart a (k ∷ ts ++ t ∷ []) (draft (ImplicitEquation v) (with_item a (implicits ps)) [] [] [])
  implicit_ties : (k : Lexeme) (ts : List Lexeme) (ps : List (VarId × EquId)) → k.sort ≡ Implicit → AreTies ts ps → 0 < length ps → IsPart a (k ∷ ts) (draft Implicits (with_item a (implicits ps)) [] [] [])

abbrev is_started : Stage → Bool
is_started Start = false
is_started s = true

same_draft : (d e : Draft) → Some d ≡ Some e → d ≡ e
same_draft d e h = cc

pub some_more : {X : Type 0} (xs : List X) (x : X) → 0 < length (xs ++ x ∷ [])
some_more xs x = let l = length-append xs (x ∷ []) in omega (arith, l)

module _ (a : Annot) where
  -- the part goes on as the draft that the step gives
  goes : {ts : List Lexeme} (d e : Draft) → IsPart a ts d → Some d ≡ Some e → IsPart a ts e
  goes {ts = ts} d e h q = subst (λ x. IsPart a ts x) (same_draft d e q) h

  no_duals : with_item a (duals []) ≡ a
  no_duals = ap (λ x. record { bilevel = a.bilevel; leader = a.leader; blocks = a.blocks; duals = x; visols = a.visols; implicits = a.implicits }) (append-nil a.duals)

  no_implicits : with_item a (implicits []) ≡ a
  no_implicits = ap (λ x. record { bilevel = a.bilevel; leader = a.leader; blocks = a.blocks; duals = a.duals; visols = a.visols; implicits = x }) (append-nil a.implicits)

  module _ (t : Lexeme) (e : Draft) where
    variable_on : {ts : List Lexeme} {d : Draft} (v : VarId) → t.sort ≡ Variable v → IsPart a ts d → step d (Variable v) ≡ Some e → IsPart a (ts ++ t ∷ []) e
    variable_on v q (objective_next k sense p) h = goes _ e (agent_variables k t sense v [] [] p q no_variables) h
    variable_on v q (agent_variables k u sense o ts vs p r g) h = goes _ e (agent_variables k u sense o (ts ++ t ∷ []) (vs ++ v ∷ []) p r (one_variable_more ts vs t v g q)) h
    variable_on v q (agent_equations k u sense o ts us vs es p r g f) h = cc
    variable_on v q (vi_start k p) h = goes _ e (vi_zeros k (t ∷ []) (v ∷ []) p (one_variable_more [] [] t v no_variables q) (omega arith)) h
    variable_on v q (vi_zeros k ts vs p g s) h = goes _ e (vi_zeros k (ts ++ t ∷ []) (vs ++ v ∷ []) p (one_variable_more ts vs t v g q) (some_more vs v)) h
    variable_on v q (vi_function k u f ts us vs ps p g l r) h =
        subst (λ x. IsPart a x e) (sym (append_assoc (k ∷ ts ++ us) (u ∷ []) (t ∷ []) ∙ append_assoc (k ∷ ts) us (u ∷ t ∷ [])))
        (goes _ e (vi_pairs k ts (us ++ u ∷ t ∷ []) vs (ps ++ (f, v) ∷ []) p g (one_pair_more us ps u t f v l r q) (some_more ps (f, v))) h)
    variable_on v q (vi_pairs k ts us vs ps p g l s) h = cc
    variable_on v q (vi_constraints k ts us ws vs ps es p g l m s) h = cc
    variable_on v q (dual_start k p) h = goes _ e (dual_variable k t v [] [] p no_ties q) (ap (λ x. Some (draft (DualEquation v) x [] [] [])) no_duals ∙ h)
    variable_on v q (dual_variable k u w ts ps p g r) h = cc
    variable_on v q (dual_ties k ts ps p g s) h = goes _ e (dual_variable k t v ts ps p g q) h
    variable_on v q (visol_start k p) h = cc
    variable_on v q (visol_equations k ts es p g s) h = cc
    variable_on v q (implicit_start k p) h = goes _ e (implicit_variable k t v [] [] p no_ties q) (ap (λ x. Some (draft (ImplicitEquation v) x [] [] [])) no_implicits ∙ h)
    variable_on v q (implicit_variable k u w ts ps p g r) h = cc
    variable_on v q (implicit_ties k ts ps p g s) h = goes _ e (implicit_variable k t v ts ps p g q) h

    equation_on : {ts : List Lexeme} {d : Draft} (w : EquId) → t.sort ≡ Equation w → IsPart a ts d → step d (Equation w) ≡ Some e → IsPart a (ts ++ t ∷ []) e
    equation_on w q (objective_next k sense p) h = cc
    equation_on w q (agent_variables k u sense o ts vs p r g) h = goes _ e (agent_equations k u sense o ts (t ∷ []) vs (w ∷ []) p r g (one_equation_more [] [] t w no_equations q)) h
    equation_on w q (agent_equations k u sense o ts us vs es p r g f) h =
        subst (λ x. IsPart a x e) (sym (append_assoc (k ∷ u ∷ ts) us (t ∷ [])))
        (goes _ e (agent_equations k u sense o ts (us ++ t ∷ []) vs (es ++ w ∷ []) p r g (one_equation_more us es t w f q)) h)
    equation_on w q (vi_start k p) h = goes _ e (vi_function k t w [] [] [] [] p no_variables no_pairs q) h
    equation_on w q (vi_zeros k ts vs p g s) h =
        subst (λ x. IsPart a (x ++ t ∷ []) e) (append-nil (k ∷ ts))
        (goes _ e (vi_function k t w ts [] vs [] p g no_pairs q) h)
    equation_on w q (vi_function k u f ts us vs ps p g l r) h =
        subst (λ x. IsPart a x e) (sym (append_assoc (k ∷ ts ++ us) (u ∷ []) (t ∷ [])))
        (goes _ e (vi_constraints k ts us (u ∷ t ∷ []) vs ps (f ∷ w ∷ []) p g l (one_equation_more (u ∷ []) (f ∷ []) t w (one_equation_more [] [] u f no_equations r) q) (omega arith)) h)
    equation_on w q (vi_pairs k ts us vs ps p g l s) h = goes _ e (vi_function k t w ts us vs ps p g l q) h
    equation_on w q (vi_constraints k ts us ws vs ps es p g l m s) h =
        subst (λ x. IsPart a x e) (sym (append_assoc (k ∷ ts ++ us) ws (t ∷ [])))
        (goes _ e (vi_constraints k ts us (ws ++ t ∷ []) vs ps (es ++ w ∷ []) p g l (one_equation_more ws es t w m q) (some_more es w)) h)
    equation_on w q (dual_start k p) h = cc
    equation_on w q (dual_variable k u v ts ps p g r) h =
        subst (λ x. IsPart a x e) (sym (append_assoc (k ∷ ts) (u ∷ []) (t ∷ [])))
        (goes _ e (dual_ties k (ts ++ u ∷ t ∷ []) (ps ++ (v, w) ∷ []) p (one_tie_more ts ps u t v w g r q) (some_more ps (v, w))) (ap (λ x. Some (draft Duals x [] [] [])) (sym (more_duals a ps ((v, w) ∷ []))) ∙ h))
    equation_on w q (dual_ties k ts ps p g s) h = cc
    equation_on w q (visol_start k p) h = goes _ e (visol_equations k (t ∷ []) (w ∷ []) p (one_equation_more [] [] t w no_equations q) (omega arith)) h
    equation_on w q (visol_equations k ts es p g s) h =
        goes _ e (visol_equations k (ts ++ t ∷ []) (es ++ w ∷ []) p (one_equation_more ts es t w g q) (some_more es w)) (ap (λ x. Some (draft Visols x [] [] [])) (sym (more_visols a es (w ∷ []))) ∙ h)
    equation_on w q (implicit_start k p) h = cc
    equation_on w q (implicit_variable k u v ts ps p g r) h =
        subst (λ x. IsPart a x e) (sym (append_assoc (k ∷ ts) (u ∷ []) (t ∷ [])))
        (goes _ e (implicit_ties k (ts ++ u ∷ t ∷ []) (ps ++ (v, w) ∷ []) p (one_tie_more ts ps u t v w g r q) (some_more ps (v, w))) (ap (λ x. Some (draft Implicits x [] [] [])) (sym (more_implicits a ps ((v, w) ∷ []))) ∙ h))
    equation_on w q (implicit_ties k ts ps p g s) h = cc

  not_start : {ts : List Lexeme} {d : Draft} → IsPart a ts d → is_started d.stage ≡ true
  not_start (objective_next k sense p) = refl
  not_start (agent_variables k u sense o ts vs p r g) = refl
  not_start (agent_equations k u sense o ts us vs es p r g f) = refl
  not_start (vi_start k p) = refl
  not_start (vi_zeros k ts vs p g s) = refl
  not_start (vi_function k u f ts us vs ps p g l r) = refl
  not_start (vi_pairs k ts us vs ps p g l s) = refl
  not_start (vi_constraints k ts us ws vs ps es p g l m s) = refl
  not_start (dual_start k p) = refl
  not_start (dual_variable k u w ts ps p g r) = refl
  not_start (dual_ties k ts ps p g s) = refl
  not_start (visol_start k p) = refl
  not_start (visol_equations k ts es p g s) = refl
  not_start (implicit_start k p) = refl
  not_start (implicit_variable k u w ts ps p g r) = refl
  not_start (implicit_ties k ts ps p g s) = refl

  -- a part that may end is an item
  record IsWhole (ts : List Lexeme) (d : Draft) : Type 0 where
    item : Item
    is : IsItem ts item
    gives : closed d ≡ with_item a item

  whole_part : {ts : List Lexeme} {d : Draft} → IsPart a ts d → ends_item d.stage ≡ true → IsWhole ts d
  whole_part (objective_next k sense p) e = cc
  whole_part (agent_variables k u sense o ts vs p r g) e = record {
    item = block (AgentBlock sense o vs []);
    is = subst (λ x. IsItem x (block (AgentBlock sense o vs []))) (append-nil (k ∷ u ∷ ts)) (is_agent k u sense o ts [] vs [] p r g no_equations);
    gives = refl;
  }
  whole_part (agent_equations k u sense o ts us vs es p r g f) e = record { item = block (AgentBlock sense o vs es); is = is_agent k u sense o ts us vs es p r g f; gives = refl }
  whole_part (vi_start k p) e = cc
  whole_part (vi_zeros k ts vs p g s) e = record {
    item = block (ViBlock vs [] []);
    is = subst (λ x. IsItem x (block (ViBlock vs [] []))) (append-nil (k ∷ ts ++ []) ∙ append-nil (k ∷ ts)) (is_vi k ts [] [] vs [] [] p g no_pairs no_equations (omega arith));
    gives = refl;
  }
  whole_part (vi_function k u f ts us vs ps p g l r) e = record { item = block (ViBlock vs ps (f ∷ [])); is = is_vi k ts us (u ∷ []) vs ps (f ∷ []) p g l (one_equation_more [] [] u f no_equations r) (omega arith); gives = refl }
  whole_part (vi_pairs k ts us vs ps p g l s) e = record {
    item = block (ViBlock vs ps []);
    is = subst (λ x. IsItem x (block (ViBlock vs ps []))) (append-nil (k ∷ ts ++ us)) (is_vi k ts us [] vs ps [] p g l no_equations (omega arith));
    gives = refl;
  }
  whole_part (vi_constraints k ts us ws vs ps es p g l m s) e = record { item = block (ViBlock vs ps es); is = is_vi k ts us ws vs ps es p g l m (omega arith); gives = refl }
  whole_part (dual_start k p) e = cc
  whole_part (dual_variable k u w ts ps p g r) e = cc
  whole_part (dual_ties k ts ps p g s) e = record { item = duals ps; is = are_duals k ts ps p g s; gives = refl }
  whole_part (visol_start k p) e = cc
  whole_part (visol_equations k ts es p g s) e = record { item = visols es; is = are_visols k ts es p g s; gives = refl }
  whole_part (implicit_start k p) e = cc
  whole_part (implicit_variable k u w ts ps p g r) e = cc
  whole_part (implicit_ties k ts ps p g s) e = record { item = implicits ps; is = are_implicits k ts ps p g s; gives = refl }

-- ---- annotations
-- the lexemes begin an annotation, and the draft holds what they say
pub data Reached : List Lexeme → Draft → Type 0 where
  nothing : Reached [] start_draft
  head : (t : Lexeme) → t.sort ≡ Equilibrium → Reached (t ∷ []) (draft Head (nothing_yet false []) [] [] [])
  leader : (t : Lexeme) (ts : List Lexeme) (vs : List VarId) → t.sort ≡ Bilevel → AreVariables ts vs → Reached (t ∷ ts) (draft Leader (nothing_yet true vs) [] [] [])
  part : (ts us : List Lexeme) (a : Annot) (d : Draft) → HasItems ts a → IsPart a us d → Reached (ts ++ us) d

pub whole : {ts : List Lexeme} {d : Draft} → Reached ts d → ends_item d.stage ≡ true → HasItems ts (closed d)
whole nothing e = cc
whole (head t p) e = equilibrium t p
whole (leader t ts vs p g) e = bilevel t ts vs p g
whole (part ts us a d h g) e =
    let w = whole_part a g e in
    subst (HasItems (ts ++ us)) (sym w.gives) (one_item_more ts us a w.item h w.is)

head_fails : (s t : Stage) (n : Note) → is_started s ≡ true → head_move s t n ≡ Fail
head_fails Start t n e = cc
head_fails s t n e = refl

module _ (t : Lexeme) (e : Draft) where
  went : {ts : List Lexeme} (d : Draft) → Reached ts d → Some d ≡ Some e → Reached ts e
  went {ts = ts} d h q = subst (λ x. Reached ts x) (same_draft d e q) h

  part_on : (ts us : List Lexeme) (a : Annot) → HasItems ts a → IsPart a (us ++ t ∷ []) e → Reached (ts ++ us ++ t ∷ []) e
  part_on ts us a h g = subst (λ x. Reached x e) (sym (append_assoc ts us (t ∷ []))) (part ts (us ++ t ∷ []) a e h g)

  item_on : {ts : List Lexeme} {d : Draft} (s : Stage) → ((b : Annot) → IsPart b (t ∷ []) (draft s b [] [] [])) → Reached ts d → (b : Bool) → ends_item d.stage ≡ b → cond b (Some (draft s (closed d) [] [] [])) None ≡ Some e → Reached (ts ++ t ∷ []) e
  item_on {ts = ts} {d = d} s made h true k q = went _ (part ts (t ∷ []) (closed d) (draft s (closed d) [] [] []) (whole h k) (made (closed d))) q
  item_on s made h false k q = cc

  variable_after : {ts : List Lexeme} {d : Draft} (v : VarId) → t.sort ≡ Variable v → Reached ts d → step d (Variable v) ≡ Some e → Reached (ts ++ t ∷ []) e
  variable_after v q nothing h = cc
  variable_after v q (head u p) h = cc
  variable_after v q (leader u ts vs p g) h = went _ (leader u (ts ++ t ∷ []) (vs ++ v ∷ []) p (one_variable_more ts vs t v g q)) h
  variable_after v q (part ts us a d g f) h = part_on ts us a g (variable_on a t e v q f h)

  equation_after : {ts : List Lexeme} {d : Draft} (w : EquId) → t.sort ≡ Equation w → Reached ts d → step d (Equation w) ≡ Some e → Reached (ts ++ t ∷ []) e
  equation_after w q nothing h = cc
  equation_after w q (head u p) h = cc
  equation_after w q (leader u ts vs p g) h = cc
  equation_after w q (part ts us a d g f) h = part_on ts us a g (equation_on a t e w q f h)

  no_head : {A : Type 0} (m : Move) (d : Draft) → m ≡ Fail → by_move m d ≡ Some e → A
  no_head m d p h = cc

  equilibrium_after : {ts : List Lexeme} {d : Draft} → t.sort ≡ Equilibrium → Reached ts d → step d Equilibrium ≡ Some e → Reached (ts ++ t ∷ []) e
  equilibrium_after q nothing h = went _ (head t q) h
  equilibrium_after q (head u p) h = cc
  equilibrium_after q (leader u ts vs p g) h = cc
  equilibrium_after q (part ts us a d g f) h = no_head _ d (head_fails d.stage Head Nothing (not_start a f)) h

  bilevel_after : {ts : List Lexeme} {d : Draft} → t.sort ≡ Bilevel → Reached ts d → step d Bilevel ≡ Some e → Reached (ts ++ t ∷ []) e
  bilevel_after q nothing h = went _ (leader t [] [] q no_variables) h
  bilevel_after q (head u p) h = cc
  bilevel_after q (leader u ts vs p g) h = cc
  bilevel_after q (part ts us a d g f) h = no_head _ d (head_fails d.stage Leader NoteBilevel (not_start a f)) h

  after : {ts : List Lexeme} {d : Draft} (q : Sort) → t.sort ≡ q → Reached ts d → step d q ≡ Some e → Reached (ts ++ t ∷ []) e
  after Equilibrium q r h = equilibrium_after q r h
  after Bilevel q r h = bilevel_after q r h
  after {d = d} (Agent sense) q r h = item_on (Objective sense) (λ b. objective_next t sense q) r (ends_item d.stage) refl h
  after {d = d} Vi q r h = item_on ViStart (λ b. vi_start t q) r (ends_item d.stage) refl h
  after {d = d} Dualvar q r h = item_on DualStart (λ b. dual_start t q) r (ends_item d.stage) refl h
  after {d = d} Visol q r h = item_on VisolStart (λ b. visol_start t q) r (ends_item d.stage) refl h
  after {d = d} Implicit q r h = item_on ImplicitStart (λ b. implicit_start t q) r (ends_item d.stage) refl h
  after Reserved q r h = cc
  after (Variable v) q r h = variable_after v q r h
  after (Equation w) q r h = equation_after w q r h
  after Unknown q r h = cc
  after Mark q r h = cc

-- ---- runs
reached_by : (ts us : List Lexeme) (d e : Draft) (t : Lexeme) (o : Option Draft) → step d t.sort ≡ o → ((us : List Lexeme) (f : Draft) → Reached us f → run f ts ≡ Some e → Reached (us ++ ts) e) → Reached us d → then o (λ f. run f ts) ≡ Some e → Reached (us ++ t ∷ ts) e
reached_by ts us d e t None q rest r h = cc
reached_by ts us d e t (Some f) q rest r h = subst (λ x. Reached x e) (append_assoc us (t ∷ []) ts) (rest (us ++ t ∷ []) f (after t f t.sort refl r q) h)

pub reached : (e : Draft) (ts us : List Lexeme) (d : Draft) → Reached us d → run d ts ≡ Some e → Reached (us ++ ts) e
reached e [] us d r h = subst (λ x. Reached x e) (sym (append-nil us)) (went (record { sort = Mark; place = record { line = 1; column = 1 } }) e d r h)
reached e (t ∷ ts) us d r h = reached_by ts us d e t (step d t.sort) refl (reached e ts) r h
