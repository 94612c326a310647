-- The canonical text of an annotation: the head, the blocks, the dual variables, the equations with one multiplier and the
-- implicit variables, each in a line of its own with single spaces between the words.
use Rattle.std.specs.Prelude.{ℕ, Bool, true, false, List, [], ◌++◌, codes, flat_map, slice_index_or}
use Rattle.emp_ast.specs.declared.tree.VarId.{VarId}
use Rattle.emp_ast.specs.declared.tree.EquId.{EquId}
use Rattle.emp_ast.specs.declared.model.Sense.{Sense}
use Rattle.emp_ast.specs.declared.model.Sense.TheVariants.{Min, Max}
use Rattle.emp_ast.specs.declared.model.Model.{Model}
use Rattle.emp_ast.specs.declared.annot.Block.{Block}
use Rattle.emp_ast.specs.declared.annot.Block.TheVariants.{Agent, Vi}
use Rattle.emp_ast.specs.declared.annot.Annot.{Annot}
use Rattle.emp_ast.specs.Names.{variable_names, equation_names}

-- ---- names
-- empty where the model has no variable of that number
abbrev pub variable_name : Model → VarId → List ℕ
variable_name m v = slice_index_or (variable_names m) v.at []

abbrev pub equation_name : Model → EquId → List ℕ
equation_name m e = slice_index_or (equation_names m) e.at []

-- each behind a space
abbrev pub variable_word : Model → VarId → List ℕ
variable_word m v = codes " " ++ variable_name m v

abbrev pub equation_word : Model → EquId → List ℕ
equation_word m e = codes " " ++ equation_name m e

abbrev pub pair_words : Model → EquId × VarId → List ℕ
pair_words m p = equation_word m p.0 ++ variable_word m p.1

abbrev pub variable_words : Model → List VarId → List ℕ
variable_words m vs = flat_map (variable_word m) vs

abbrev pub equation_words : Model → List EquId → List ℕ
equation_words m es = flat_map (equation_word m) es

-- ---- lines
abbrev pub head_line : Model → Bool → List VarId → List ℕ
head_line m true leader = codes "bilevel" ++ variable_words m leader ++ codes "\n"
head_line m false leader = codes "equilibrium\n"

abbrev pub sense_word : Sense → List ℕ
sense_word Min = codes "min"
sense_word Max = codes "max"

abbrev pub block_line : Model → Block → List ℕ
block_line m (Agent sense objective vars equs) = sense_word sense ++ variable_word m objective ++ variable_words m vars ++ equation_words m equs ++ codes "\n"
block_line m (Vi zeros pairs equs) = codes "vi" ++ variable_words m zeros ++ flat_map (pair_words m) pairs ++ equation_words m equs ++ codes "\n"

abbrev pub tie_line : List ℕ → Model → VarId × EquId → List ℕ
tie_line word m d = word ++ variable_word m d.0 ++ equation_word m d.1 ++ codes "\n"

abbrev pub visol_line : Model → EquId → List ℕ
visol_line m e = codes "visol" ++ equation_word m e ++ codes "\n"

-- ---- the text
abbrev pub info_text : Model → Annot → List ℕ
info_text m a =
    head_line m a.bilevel a.leader ++ flat_map (block_line m) a.blocks ++ flat_map (tie_line (codes "dualvar") m) a.duals ++ flat_map (visol_line m) a.visols ++ flat_map (tie_line (codes "implicit") m) a.implicits
