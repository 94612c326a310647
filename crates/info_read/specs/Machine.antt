-- The reader as a machine that takes one lexeme after another.
use Rattle.std.specs.Prelude.{◌≡◌, Bool, true, false, cond, ◌&&◌, nat_lt, List, [], ◌∷◌, ◌++◌, length, Option, Some, None}
use Rattle.emp_ast.specs.declared.tree.Place.{Place}
use Rattle.emp_ast.specs.declared.tree.VarId.{VarId}
use Rattle.emp_ast.specs.declared.tree.EquId.{EquId}
use Rattle.emp_ast.specs.declared.annot.Block.TheVariants.{Agent as AgentBlock, Vi as ViBlock}
use Rattle.emp_ast.specs.declared.annot.Annot.{Annot}
use Rattle.info_read.specs.declared.lexeme.Sort.{Sort}
use Rattle.info_read.specs.declared.lexeme.Sort.TheVariants.{Equilibrium, Bilevel, Agent, Vi, Dualvar, Visol, Implicit, Variable, Equation, Unknown}
use Rattle.info_read.specs.declared.lexeme.Lexeme.{Lexeme}
use Rattle.info_read.specs.declared.fault.InfoFault.{InfoFault}
use Rattle.info_read.specs.declared.fault.InfoFault.TheVariants.{Syntax, Unknown as UnknownName, WrongKind}
use Rattle.info_read.specs.declared.stage.Stage.{Stage}
use Rattle.info_read.specs.declared.stage.Stage.TheVariants.{Start, Head, Leader, Objective, AgentVariables, AgentEquations, ViStart, Zeros, Function, Pairs, Constraints, DualStart, DualEquation, Duals, VisolStart, Visols, ImplicitStart, ImplicitEquation, Implicits}
use Rattle.info_read.specs.declared.stage.Note.{Note}
use Rattle.info_read.specs.declared.stage.Note.TheVariants.{Nothing, Bilevel as NoteBilevel, Leader as NoteLeader, Variable as NoteVariable, Equation as NoteEquation, Equations as NoteEquations, Pair as NotePair, Dual as NoteDual, Visol as NoteVisol, Implicit as NoteImplicit}
use Rattle.info_read.specs.declared.stage.Move.{Move}
use Rattle.info_read.specs.declared.stage.Move.TheVariants.{Fail, Take}
use Rattle.info_read.specs.declared.draft.Draft.{Draft}
use Rattle.info_read.specs.Grammar.{block, duals, visols, implicits, nothing_yet, with_item}

-- ---- the table
abbrev pub variable_move : Stage → VarId → Move
variable_move Leader v = Take Leader (NoteLeader v)
variable_move (Objective sense) v = Take (AgentVariables sense v) Nothing
variable_move (AgentVariables sense objective) v = Take (AgentVariables sense objective) (NoteVariable v)
variable_move ViStart v = Take Zeros (NoteVariable v)
variable_move Zeros v = Take Zeros (NoteVariable v)
variable_move (Function e) v = Take Pairs (NotePair e v)
variable_move DualStart v = Take (DualEquation v) Nothing
variable_move Duals v = Take (DualEquation v) Nothing
variable_move ImplicitStart v = Take (ImplicitEquation v) Nothing
variable_move Implicits v = Take (ImplicitEquation v) Nothing
variable_move s v = Fail

abbrev pub equation_move : Stage → EquId → Move
equation_move (AgentVariables sense objective) e = Take (AgentEquations sense objective) (NoteEquation e)
equation_move (AgentEquations sense objective) e = Take (AgentEquations sense objective) (NoteEquation e)
equation_move ViStart e = Take (Function e) Nothing
equation_move Zeros e = Take (Function e) Nothing
equation_move (Function f) e = Take Constraints (NoteEquations f e)
equation_move Pairs e = Take (Function e) Nothing
equation_move Constraints e = Take Constraints (NoteEquation e)
equation_move (DualEquation v) e = Take Duals (NoteDual v e)
equation_move VisolStart e = Take Visols (NoteVisol e)
equation_move Visols e = Take Visols (NoteVisol e)
equation_move (ImplicitEquation v) e = Take Implicits (NoteImplicit v e)
equation_move s e = Fail

abbrev pub head_move : Stage → Stage → Note → Move
head_move Start s n = Take s n
head_move t s n = Fail

abbrev pub move : Stage → Sort → Move
move s Equilibrium = head_move s Head Nothing
move s Bilevel = head_move s Leader NoteBilevel
move s (Variable v) = variable_move s v
move s (Equation e) = equation_move s e
move s q = Fail

-- the stage behind the keyword of an item
abbrev pub item_stage : Sort → Option Stage
item_stage (Agent sense) = Some (Objective sense)
item_stage Vi = Some ViStart
item_stage Dualvar = Some DualStart
item_stage Visol = Some VisolStart
item_stage Implicit = Some ImplicitStart
item_stage q = None

-- an item may come, or the text end
abbrev pub ends_item : Stage → Bool
ends_item Head = true
ends_item Leader = true
ends_item (AgentVariables sense objective) = true
ends_item (AgentEquations sense objective) = true
ends_item Zeros = true
ends_item (Function e) = true
ends_item Pairs = true
ends_item Constraints = true
ends_item Duals = true
ends_item Visols = true
ends_item Implicits = true
ends_item s = false

-- some name may come
abbrev pub takes_name : Stage → Bool
takes_name Start = false
takes_name Head = false
takes_name s = true

-- ---- drafts
abbrev pub draft : Stage → Annot → List VarId → List (EquId × VarId) → List EquId → Draft
draft s a vs ps es = record { stage = s; annot = a; vars = vs; pairs = ps; equs = es }

abbrev pub with_head : Annot → Bool → List VarId → Annot
with_head a bilevel leader = record { bilevel = bilevel; leader = leader; blocks = a.blocks; duals = a.duals; visols = a.visols; implicits = a.implicits }

abbrev pub noted : Stage → Note → Draft → Draft
noted s Nothing d = draft s d.annot d.vars d.pairs d.equs
noted s NoteBilevel d = draft s (with_head d.annot true d.annot.leader) d.vars d.pairs d.equs
noted s (NoteLeader v) d = draft s (with_head d.annot d.annot.bilevel (d.annot.leader ++ v ∷ [])) d.vars d.pairs d.equs
noted s (NoteVariable v) d = draft s d.annot (d.vars ++ v ∷ []) d.pairs d.equs
noted s (NoteEquation e) d = draft s d.annot d.vars d.pairs (d.equs ++ e ∷ [])
noted s (NoteEquations e f) d = draft s d.annot d.vars d.pairs ((d.equs ++ e ∷ []) ++ f ∷ [])
noted s (NotePair e v) d = draft s d.annot d.vars (d.pairs ++ (e, v) ∷ []) d.equs
noted s (NoteDual v e) d = draft s (with_item d.annot (duals ((v, e) ∷ []))) d.vars d.pairs d.equs
noted s (NoteVisol e) d = draft s (with_item d.annot (visols (e ∷ []))) d.vars d.pairs d.equs
noted s (NoteImplicit v e) d = draft s (with_item d.annot (implicits ((v, e) ∷ []))) d.vars d.pairs d.equs

-- the annotation with the block that is read
abbrev pub closed_by : Stage → Draft → Annot
closed_by (AgentVariables sense objective) d = with_item d.annot (block (AgentBlock sense objective d.vars d.equs))
closed_by (AgentEquations sense objective) d = with_item d.annot (block (AgentBlock sense objective d.vars d.equs))
closed_by Zeros d = with_item d.annot (block (ViBlock d.vars d.pairs d.equs))
closed_by (Function e) d = with_item d.annot (block (ViBlock d.vars d.pairs (d.equs ++ e ∷ [])))
closed_by Pairs d = with_item d.annot (block (ViBlock d.vars d.pairs d.equs))
closed_by Constraints d = with_item d.annot (block (ViBlock d.vars d.pairs d.equs))
closed_by s d = d.annot

abbrev pub closed : Draft → Annot
closed d = closed_by d.stage d

-- ---- steps
abbrev pub by_move : Move → Draft → Option Draft
by_move Fail d = None
by_move (Take s n) d = Some (noted s n d)

abbrev pub step_by : Option Stage → Sort → Draft → Option Draft
step_by (Some s) q d = cond (ends_item d.stage) (Some (draft s (closed d) [] [] [])) None
step_by None q d = by_move (move d.stage q) d

abbrev pub step : Draft → Sort → Option Draft
step d q = step_by (item_stage q) q d

abbrev pub start_draft : Draft
start_draft = draft Start (nothing_yet false []) [] [] []

abbrev pub then : Option Draft → (Draft → Option Draft) → Option Draft
then None f = None
then (Some d) f = f d

abbrev pub run : Draft → List Lexeme → Option Draft
run d [] = Some d
run d (t ∷ ts) = then (step d t.sort) (λ e. run e ts)

-- what a step gives: the next draft, or none, and the draft as it was
abbrev pub Steps : Draft → Draft → Option Draft → Bool → Type 0
Steps old new o true = o ≡ Some new
Steps old new o false = (o ≡ None) × (new ≡ old)

-- ---- faults
abbrev pub named_fault : Bool → InfoFault → Place → InfoFault
named_fault true f p = f
named_fault false f p = Syntax p

abbrev pub fault_by : Stage → Place → Sort → InfoFault
fault_by s p (Variable v) = named_fault (takes_name s) (WrongKind p) p
fault_by s p (Equation e) = named_fault (takes_name s) (WrongKind p) p
fault_by s p Unknown = named_fault (takes_name s) (UnknownName p) p
fault_by s p q = Syntax p

abbrev pub fault_at : Stage → Lexeme → InfoFault
fault_at s t = fault_by s t.place t.sort

-- the text may end behind the draft
abbrev pub is_whole : Draft → Bool
is_whole d = ends_item d.stage && nat_lt 0 (length (closed d).blocks)

abbrev pub Finishes : Draft → Option Annot → Type 0
Finishes d (Some a) = (is_whole d ≡ true) × (a ≡ closed d)
Finishes d None = is_whole d ≡ false
