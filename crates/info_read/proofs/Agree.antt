-- The machine and the grammar agree, and where the machine stops is the first fault.
use Rattle.std.proofs.Common.{◌≡◌, inr, ℕ, ◌+◌, ◌<◌, ◌≤◌, Bool, true, false, ◌&&◌, List, [], ◌∷◌, ◌++◌, length, take, drop, get_or, Option, Some, None, refl, sym, ap, subst, ◌∙◌, arith, nat_lt}
use Rattle.std.proofs.lemmas.Bool.{ltb-true, lt-ltb}
use Rattle.std.proofs.lemmas.List.{length-append, take_more, take_all, take-append-drop, drop_more}
use Rattle.emp_ast.specs.declared.tree.Place.{Place}
use Rattle.emp_ast.specs.declared.tree.VarId.{VarId}
use Rattle.emp_ast.specs.declared.tree.EquId.{EquId}
use Rattle.emp_ast.specs.declared.model.Sense.TheVariants.{Min}
use Rattle.emp_ast.specs.declared.annot.Block.{Block}
use Rattle.emp_ast.specs.declared.annot.Annot.{Annot}
use Rattle.info_read.specs.declared.lexeme.Sort.{Sort}
use Rattle.info_read.specs.declared.lexeme.Sort.TheVariants.{Equilibrium, Bilevel, Agent, Vi, Dualvar, Visol, Implicit, Reserved, Variable, Equation, Unknown, Mark}
use Rattle.info_read.specs.declared.lexeme.Lexeme.{Lexeme}
use Rattle.info_read.specs.declared.fault.InfoFault.{InfoFault}
use Rattle.info_read.specs.declared.fault.InfoFault.TheVariants.{Syntax}
use Rattle.info_read.specs.declared.stage.Stage.{Stage}
use Rattle.info_read.specs.declared.stage.Stage.TheVariants.{Start, Head, Leader, Objective, AgentVariables, AgentEquations, ViStart, Zeros, Function, Pairs, Constraints, DualStart, DualEquation, Duals, VisolStart, Visols, ImplicitStart, ImplicitEquation, Implicits}
use Rattle.info_read.specs.declared.draft.Draft.{Draft}
use Rattle.info_read.specs.Grammar.{Stands}
use Rattle.info_read.specs.Faults.{Begins, IsKnown, IsName, TakesName, IsMisfit, HasFault, ends, unknown, wrong_kind, misplaced}
use Rattle.info_read.specs.Steps.{RefusesLexemes}
use Rattle.info_read.specs.Machine.{draft, variable_move, equation_move, takes_name, ends_item, closed, by_move, step, start_draft, run, then, named_fault, fault_by, fault_at, is_whole}
use Rattle.info_read.proofs.Runs.{joined, onward, first, one}
use Rattle.info_read.proofs.Complete.{begins, complete}
use Rattle.info_read.proofs.Reached.{nothing, whole, reached}

-- ---- whole texts
both : (b c : Bool) → b ≡ true → c ≡ true → b && c ≡ true
both b c h k = ap (λ x. x && c) h ∙ k

left : (b c : Bool) → b && c ≡ true → b ≡ true
left true c h = refl
left false c h = h

right : (b c : Bool) → b && c ≡ true → c ≡ true
right true c h = h
right false c h = cc

pub accepted : (ts : List Lexeme) (d : Draft) → run start_draft ts ≡ Some d → is_whole d ≡ true → Stands ts (closed d)
accepted ts d h w = record {
  items = whole (reached d ts [] start_draft nothing h) (left (ends_item d.stage) _ w);
  has_block = ltb-true 0 (length (closed d).blocks) (right (ends_item d.stage) _ w);
}

pub record Accepts (ts : List Lexeme) (a : Annot) : Type 0 where
  pub end : Draft
  pub runs : run start_draft ts ≡ Some end
  pub whole : is_whole end ≡ true
  pub gives : closed end ≡ a

pub accepts : (ts : List Lexeme) (a : Annot) → Stands ts a → Accepts ts a
accepts ts a h =
    let r = complete h.items in
    record { end = r.end; runs = r.runs; whole = both (ends_item r.end.stage) _ r.ends (lt-ltb 0 (length (closed r.end).blocks) (subst (λ x. 0 < length x.blocks) (sym r.gives) h.has_block)); gives = r.gives }

same_draft : (d e : Draft) → Some d ≡ Some e → d ≡ e
same_draft d e h = cc

-- lexemes stand for one annotation
pub one_annot : (ts : List Lexeme) (a b : Annot) → Stands ts a → Stands ts b → a ≡ b
one_annot ts a b h k =
    let r = accepts ts a h in
    let s = accepts ts b k in
    sym r.gives ∙ (ap closed (same_draft r.end s.end (sym r.runs ∙ s.runs)) ∙ s.gives)

-- ---- beginnings
abbrev at_home : Sort → Lexeme
at_home q = record { sort = q; place = record { line = 1; column = 1 } }

abbrev any_variable : Lexeme
any_variable = at_home (Variable (record { at = 0 }))

abbrev any_equation : Lexeme
any_equation = at_home (Equation (record { at = 0 }))

abbrev block_more : List Lexeme
block_more = at_home (Agent Min) ∷ any_variable ∷ []

-- lexemes that end an annotation
abbrev ending : Stage → List Lexeme
ending Start = at_home Equilibrium ∷ block_more
ending Head = block_more
ending Leader = block_more
ending (Objective sense) = any_variable ∷ []
ending (AgentVariables sense o) = block_more
ending (AgentEquations sense o) = block_more
ending ViStart = any_variable ∷ []
ending Zeros = block_more
ending (Function e) = block_more
ending Pairs = block_more
ending Constraints = block_more
ending DualStart = any_variable ∷ any_equation ∷ block_more
ending (DualEquation v) = any_equation ∷ block_more
ending Duals = block_more
ending VisolStart = any_equation ∷ block_more
ending Visols = block_more
ending ImplicitStart = any_variable ∷ any_equation ∷ block_more
ending (ImplicitEquation v) = any_equation ∷ block_more
ending Implicits = block_more

record IsEnded (d : Draft) (ts : List Lexeme) : Type 0 where
  end : Draft
  runs : run d ts ≡ Some end
  whole : is_whole end ≡ true

block_last : (bs : List Block) (b : Block) → nat_lt 0 (length (bs ++ b ∷ [])) ≡ true
block_last bs b = let l = length-append bs (b ∷ []) in lt-ltb 0 (length (bs ++ b ∷ [])) (omega (arith, l))

min_block : (d : Draft) → ends_item d.stage ≡ true → IsEnded d block_more
min_block d h = record {
  end = draft (AgentVariables Min (record { at = 0 })) (closed d) [] [] [];
  runs = first d _ _ (at_home (Agent Min)) (any_variable ∷ []) (begins d (Objective Min) (Agent Min) (at_home (Agent Min)) refl refl h) refl;
  whole = block_last (closed d).blocks _;
}

and_ended : (d e : Draft) (t : Lexeme) (ts : List Lexeme) → step d t.sort ≡ Some e → IsEnded e ts → IsEnded d (t ∷ ts)
and_ended d e t ts h r = record { end = r.end; runs = first d e _ t ts h r.runs; whole = r.whole }

module _ (a : Annot) (vs : List VarId) (ps : List (EquId × VarId)) (es : List EquId) where
  at_stage : Stage → Draft
  at_stage s = draft s a vs ps es

  ended : (s : Stage) → IsEnded (draft s a vs ps es) (ending s)
  ended Start = and_ended (draft Start a vs ps es) (draft Head a vs ps es) _ _ refl (min_block (draft Head a vs ps es) refl)
  ended Head = min_block (draft Head a vs ps es) refl
  ended Leader = min_block (draft Leader a vs ps es) refl
  ended (Objective sense) = record { end = draft (AgentVariables sense (record { at = 0 })) a vs ps es; runs = refl; whole = block_last a.blocks _ }
  ended (AgentVariables sense o) = min_block (draft (AgentVariables sense o) a vs ps es) refl
  ended (AgentEquations sense o) = min_block (draft (AgentEquations sense o) a vs ps es) refl
  ended ViStart = record { end = draft Zeros a (vs ++ record { at = 0 } ∷ []) ps es; runs = refl; whole = block_last a.blocks _ }
  ended Zeros = min_block (draft Zeros a vs ps es) refl
  ended (Function e) = min_block (draft (Function e) a vs ps es) refl
  ended Pairs = min_block (draft Pairs a vs ps es) refl
  ended Constraints = min_block (draft Constraints a vs ps es) refl
  ended DualStart = and_ended _ _ _ _ refl (and_ended _ _ _ _ refl (min_block _ refl))
  ended (DualEquation v) = and_ended _ _ _ _ refl (min_block _ refl)
  ended Duals = min_block (draft Duals a vs ps es) refl
  ended VisolStart = and_ended _ _ _ _ refl (min_block _ refl)
  ended Visols = min_block (draft Visols a vs ps es) refl
  ended ImplicitStart = and_ended _ _ _ _ refl (and_ended _ _ _ _ refl (min_block _ refl))
  ended (ImplicitEquation v) = and_ended _ _ _ _ refl (min_block _ refl)
  ended Implicits = min_block (draft Implicits a vs ps es) refl

  -- a name that may come
  record Fits (s : Stage) : Type 0 where
    name : Lexeme
    known : IsKnown name.sort
    next : Draft
    steps : step (draft s a vs ps es) name.sort ≡ Some next

  variable_fits : (s : Stage) (e : Draft) → step (draft s a vs ps es) (Variable (record { at = 0 })) ≡ Some e → Fits s
  variable_fits s e h = record { name = any_variable; known = tt; next = e; steps = h }

  equation_fits : (s : Stage) (e : Draft) → step (draft s a vs ps es) (Equation (record { at = 0 })) ≡ Some e → Fits s
  equation_fits s e h = record { name = any_equation; known = tt; next = e; steps = h }

  fits : (s : Stage) → takes_name s ≡ true → Fits s
  fits Start h = cc
  fits Head h = cc
  fits Leader h = variable_fits Leader _ refl
  fits (Objective sense) h = variable_fits (Objective sense) _ refl
  fits (AgentVariables sense o) h = variable_fits (AgentVariables sense o) _ refl
  fits (AgentEquations sense o) h = equation_fits (AgentEquations sense o) _ refl
  fits ViStart h = variable_fits ViStart _ refl
  fits Zeros h = variable_fits Zeros _ refl
  fits (Function e) h = variable_fits (Function e) _ refl
  fits Pairs h = equation_fits Pairs _ refl
  fits Constraints h = equation_fits Constraints _ refl
  fits DualStart h = variable_fits DualStart _ refl
  fits (DualEquation v) h = equation_fits (DualEquation v) _ refl
  fits Duals h = variable_fits Duals _ refl
  fits VisolStart h = equation_fits VisolStart _ refl
  fits Visols h = equation_fits Visols _ refl
  fits ImplicitStart h = variable_fits ImplicitStart _ refl
  fits (ImplicitEquation v) h = equation_fits (ImplicitEquation v) _ refl
  fits Implicits h = variable_fits Implicits _ refl

no_variable_fits : (s : Stage) (v : VarId) (d : Draft) → takes_name s ≡ false → by_move (variable_move s v) d ≡ None
no_variable_fits Start v d h = refl
no_variable_fits Head v d h = refl
no_variable_fits s v d h = cc

no_equation_fits : (s : Stage) (e : EquId) (d : Draft) → takes_name s ≡ false → by_move (equation_move s e) d ≡ None
no_equation_fits Start e d h = refl
no_equation_fits Head e d h = refl
no_equation_fits s e d h = cc

no_name_fits : (d : Draft) (q : Sort) → IsKnown q → takes_name d.stage ≡ false → step d q ≡ None
no_name_fits d (Variable v) k h = no_variable_fits d.stage v d h
no_name_fits d (Equation e) k h = no_equation_fits d.stage e d h
no_name_fits d q k h = absurd k

module _ (before : List Lexeme) (d : Draft) (h : run start_draft before ≡ Some d) where
  pub begun : Begins before
  begun =
      let w = ended d.annot d.vars d.pairs d.equs d.stage in
      (ending d.stage, closed w.end, accepted (before ++ ending d.stage) w.end (onward start_draft d (Some w.end) before (ending d.stage) h w.runs) w.whole)

  none_some : (o : Option Draft) (e : Draft) → o ≡ None → o ≡ Some e → ⊥
  none_some o e p q = cc

  pub stopped : (t : Lexeme) → step d t.sort ≡ None → Begins (before ++ t ∷ []) → ⊥
  stopped t s b =
      let r = accepts ((before ++ t ∷ []) ++ b.0) b.1 b.2 in
      none_some _ r.end (joined (before ++ t ∷ []) b.0 start_draft ∙ ap (λ x. then x (λ e. run e b.0)) (onward start_draft d None before (t ∷ []) h (one d None t t.sort refl s))) r.runs

  pub no_takes : takes_name d.stage ≡ false → TakesName before → ⊥
  no_takes n k = stopped k.0 (no_name_fits d k.0.sort k.1 n) k.2

module _ (before : List Lexeme) (d : Draft) (h : run start_draft before ≡ Some d) where
  pub takes : takes_name d.stage ≡ true → TakesName before
  takes k =
      let f = fits d.annot d.vars d.pairs d.equs d.stage k in
      (f.name, f.known, begun (before ++ f.name ∷ []) f.next (onward start_draft d (Some f.next) before (f.name ∷ []) h (one d (Some f.next) f.name f.name.sort refl f.steps)))

  module _ (ts : List Lexeme) (end : Place) (t : Lexeme) (m : IsMisfit ts before t) where
    named : (f : InfoFault) (b : Bool) → takes_name d.stage ≡ b → (TakesName before → HasFault ts end f) → HasFault ts end (named_fault b f t.place)
    named f true k known = known (takes k)
    named f false k known = misplaced before t m (λ _ n. no_takes before d h k n)

    no_name : (q : Sort) → t.sort ≡ q → (IsName q → ⊥) → HasFault ts end (Syntax t.place)
    no_name q p n = misplaced before t m (λ k _. n (subst IsName p k))

    fault_is : (q : Sort) → t.sort ≡ q → HasFault ts end (fault_by d.stage t.place q)
    fault_is (Variable v) p = named _ (takes_name d.stage) refl (λ k. wrong_kind before t m (subst IsKnown (sym p) tt) k)
    fault_is (Equation e) p = named _ (takes_name d.stage) refl (λ k. wrong_kind before t m (subst IsKnown (sym p) tt) k)
    fault_is Unknown p = named _ (takes_name d.stage) refl (λ k. unknown before t m p k)
    fault_is Equilibrium p = no_name Equilibrium p (λ k. k)
    fault_is Bilevel p = no_name Bilevel p (λ k. k)
    fault_is (Agent sense) p = no_name (Agent sense) p (λ k. k)
    fault_is Vi p = no_name Vi p (λ k. k)
    fault_is Dualvar p = no_name Dualvar p (λ k. k)
    fault_is Visol p = no_name Visol p (λ k. k)
    fault_is Implicit p = no_name Implicit p (λ k. k)
    fault_is Reserved p = no_name Reserved p (λ k. k)
    fault_is Mark p = no_name Mark p (λ k. k)

-- the fault of lexemes, of which the machine takes those before one and not that one
pub stops_there : (end : Place) (before : List Lexeme) (t : Lexeme) (after : List Lexeme) (d : Draft) → run start_draft before ≡ Some d → step d t.sort ≡ None → HasFault (before ++ t ∷ after) end (fault_at d.stage t)
stops_there end before t after d h s =
    let m : IsMisfit (before ++ t ∷ after) before t = record { after = after; is = refl; begins = begun before d h; stops = stopped before d h t s } in
    fault_is before d h (before ++ t ∷ after) end t m t.sort refl

module _ (ts : List Lexeme) (d : Draft) (h : run start_draft ts ≡ Some d) where
  true_false : (b : Bool) → b ≡ true → b ≡ false → ⊥
  true_false b p q = cc

  pub unfinished : (end : Place) → is_whole d ≡ false → HasFault ts end (Syntax end)
  unfinished end w =
      ends (begun ts d h) (λ a s.
      let r = accepts ts a s in
      true_false (is_whole d) (ap is_whole (same_draft d r.end (sym h ∙ r.runs)) ∙ r.whole) w)

-- ---- the loop's ends
module _ (ts : List Lexeme) (i : ℕ) (d : Draft) (h : run start_draft (take i ts) ≡ Some d) where
  pub lexeme_taken : (x : Lexeme) (e : Draft) → i < length ts → step d (get_or ts i x).sort ≡ Some e → run start_draft (take (i + 1) ts) ≡ Some e
  lexeme_taken x e l s = ap (run start_draft) (take_more ts i x l) ∙ onward start_draft d (Some e) (take i ts) (get_or ts i x ∷ []) h (one d (Some e) (get_or ts i x) (get_or ts i x).sort refl s)

  pub lexeme_refused : (end : Place) (x : Lexeme) → i < length ts → step d (get_or ts i x).sort ≡ None → RefusesLexemes ts end (fault_at d.stage (get_or ts i x))
  lexeme_refused end x l s =
      let m : IsMisfit ts (take i ts) (get_or ts i x) = record {
        after = drop (i + 1) ts;
        is = sym (take-append-drop i ts) ∙ ap (λ x. take i ts ++ x) (drop_more ts i x l);
        begins = begun (take i ts) d h;
        stops = stopped (take i ts) d h (get_or ts i x) s;
      } in
      inr (fault_is (take i ts) d h ts end (get_or ts i x) m (get_or ts i x).sort refl)

  all_read : length ts ≤ i → run start_draft ts ≡ Some d
  all_read l = ap (run start_draft) (sym (take_all i ts l)) ∙ h

  pub end_accepted : length ts ≤ i → is_whole d ≡ true → Stands ts (closed d)
  end_accepted l w = accepted ts d (all_read l) w

  pub end_refused : (end : Place) → length ts ≤ i → is_whole d ≡ false → RefusesLexemes ts end (Syntax end)
  end_refused end l w = inr (unfinished ts d (all_read l) end w)
