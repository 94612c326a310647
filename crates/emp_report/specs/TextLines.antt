-- The fault lines of texts and of ownership. Each line ends with LF.
use Rattle.std.specs.Prelude.{ℕ, List, [], ◌++◌, take, codes, decimal, slice_index_or}
use Rattle.emp_ast.specs.declared.tree.Place.{Place}
use Rattle.emp_ast.specs.declared.tree.VarId.{VarId}
use Rattle.emp_ast.specs.declared.tree.EquId.{EquId}
use Rattle.emp_ast.specs.declared.model.Model.{Model}
use Rattle.emp_ast.specs.Names.{variable_names, equation_names}
use Rattle.emp_command.specs.Lines.{no_memory_line}
use Rattle.emp_lex.specs.declared.fault.LexFault.{LexFault}
use Rattle.emp_lex.specs.declared.fault.LexFault.TheVariants as LexWords
use Rattle.gms_grammar.specs.declared.fault.ModelFault.{ModelFault}
use Rattle.gms_grammar.specs.declared.fault.ModelFault.TheVariants as ModelWords
use Rattle.info_read.specs.declared.fault.InfoFault.{InfoFault}
use Rattle.info_read.specs.declared.fault.InfoFault.TheVariants as InfoWords
use Rattle.emp_owner.specs.declared.owned.OwnFault.{OwnFault}
use Rattle.emp_owner.specs.declared.owned.OwnFault.TheVariants as OwnWords

-- a verb, an option or a form of file that is not built
abbrev pub not_yet_line : List ℕ
not_yet_line = codes "error 30: not yet\n"

-- ---- names; a line has room for 63 bytes of one, and the longest has no more
abbrev pub variable_name : Model → VarId → List ℕ
variable_name m v = slice_index_or (variable_names m) v.at []

abbrev pub equation_name : Model → EquId → List ℕ
equation_name m e = slice_index_or (equation_names m) e.at []

-- ---- lines by place and by name
abbrev pub place_text : Place → List ℕ
place_text p = decimal p.line ++ codes ":" ++ decimal p.column

abbrev pub placed_line : List ℕ → Place → List ℕ → List ℕ
placed_line start p word = start ++ place_text p ++ codes " " ++ word ++ codes "\n"

abbrev pub named_line : List ℕ → List ℕ → List ℕ → List ℕ
named_line start word name = start ++ word ++ codes " " ++ take 63 name ++ codes "\n"

-- ---- a text without tokens; `start` says of which file
abbrev pub lex_line : List ℕ → LexFault → List ℕ
lex_line start (LexWords.BadByte p) = placed_line start p (codes "bad byte")
lex_line start (LexWords.LongName p) = placed_line start p (codes "long name")
lex_line start (LexWords.OpenBlock p) = placed_line start p (codes "open block")
lex_line start (LexWords.Dollar p) = placed_line start p (codes "dollar line")
lex_line start (LexWords.Number p) = placed_line start p (codes "number")
lex_line start LexWords.NoMemory = no_memory_line

-- ---- model texts
abbrev pub model_start : List ℕ
model_start = codes "error 14: model "

abbrev pub model_line : ModelFault → List ℕ
model_line (ModelWords.Lex f) = lex_line model_start f
model_line (ModelWords.Syntax p) = placed_line model_start p (codes "syntax")
model_line (ModelWords.Undeclared p) = placed_line model_start p (codes "undeclared")
model_line (ModelWords.Twice p) = placed_line model_start p (codes "twice")
model_line (ModelWords.Discrete p) = placed_line model_start p (codes "discrete")
model_line (ModelWords.Attribute p) = placed_line model_start p (codes "attribute")
model_line (ModelWords.Function p) = placed_line model_start p (codes "function")
model_line (ModelWords.TooLarge p) = placed_line model_start p (codes "too large")
model_line (ModelWords.Undefined e name) = named_line model_start (codes "undefined") name
model_line (ModelWords.BoundsCross v name) = named_line model_start (codes "bounds cross") name
model_line ModelWords.NoMemory = no_memory_line

-- ---- annotation texts
abbrev pub info_start : List ℕ
info_start = codes "error 15: info "

abbrev pub info_line : InfoFault → List ℕ
info_line (InfoWords.Lex f) = lex_line info_start f
info_line (InfoWords.Syntax p) = placed_line info_start p (codes "syntax")
info_line (InfoWords.Unknown p) = placed_line info_start p (codes "unknown")
info_line (InfoWords.WrongKind p) = placed_line info_start p (codes "wrong kind")
info_line InfoWords.NoMemory = no_memory_line

-- ---- rules of ownership
abbrev pub own_start : List ℕ
own_start = codes "error 16: "

abbrev pub own_line : Model → OwnFault → List ℕ
own_line m OwnWords.LeaderMissing = codes "error 16: leader missing\n"
own_line m (OwnWords.Unowned v) = named_line own_start (codes "unowned") (variable_name m v)
own_line m (OwnWords.OwnedTwice v) = named_line own_start (codes "owned twice") (variable_name m v)
own_line m (OwnWords.EquationTwice e) = named_line own_start (codes "equation twice") (equation_name m e)
own_line m (OwnWords.EquationLeft e) = named_line own_start (codes "equation left") (equation_name m e)
own_line m (OwnWords.ViRelation e) = named_line own_start (codes "vi relation") (equation_name m e)
own_line m (OwnWords.NotConstraint e) = named_line own_start (codes "not a constraint") (equation_name m e)
own_line m (OwnWords.DualShared e) = named_line own_start (codes "dual shared") (equation_name m e)
own_line m (OwnWords.DualTwice e) = named_line own_start (codes "dual twice") (equation_name m e)
own_line m (OwnWords.DualBound v) = named_line own_start (codes "dual bound") (variable_name m v)
own_line m (OwnWords.ImplicitUse v) = named_line own_start (codes "implicit use") (variable_name m v)
own_line m (OwnWords.ImplicitRelation e) = named_line own_start (codes "implicit relation") (equation_name m e)
own_line m OwnWords.NoMemory = no_memory_line
