-- The grammar of annotations: which lexemes stand for which annotation. With V a name of a variable and E of an equation:
--     info = ( "equilibrium" | "bilevel" { V } ) item { item }        at least one item is a min, max or vi block
--     item = ( "min" | "max" ) V { V } { E }
--          | "vi" { V } { E V } { E }                                 at least one name
--          | "dualvar" V E { V E }
--          | "visol" E { E }
--          | "implicit" V E { V E }
use Rattle.std.specs.Prelude.{◌≡◌, ◌+◌, ◌<◌, Bool, true, false, List, [], ◌∷◌, ◌++◌, length}
use Rattle.emp_ast.specs.declared.tree.VarId.{VarId}
use Rattle.emp_ast.specs.declared.tree.EquId.{EquId}
use Rattle.emp_ast.specs.declared.model.Sense.{Sense}
use Rattle.emp_ast.specs.declared.annot.Block.{Block}
use Rattle.emp_ast.specs.declared.annot.Block.TheVariants.{Agent as AgentBlock, Vi as ViBlock}
use Rattle.emp_ast.specs.declared.annot.Annot.{Annot}
use Rattle.info_read.specs.declared.lexeme.Sort.TheVariants.{Equilibrium, Bilevel, Agent, Vi, Dualvar, Visol, Implicit, Variable, Equation}
use Rattle.info_read.specs.declared.lexeme.Lexeme.{Lexeme}

-- ---- names in a row
-- { V }
pub data AreVariables : List Lexeme → List VarId → Type 0 where
  no_variables : AreVariables [] []
  one_variable_more : (ts : List Lexeme) (vs : List VarId) (t : Lexeme) (v : VarId) → AreVariables ts vs → t.sort ≡ Variable v → AreVariables (ts ++ t ∷ []) (vs ++ v ∷ [])

-- { E }
pub data AreEquations : List Lexeme → List EquId → Type 0 where
  no_equations : AreEquations [] []
  one_equation_more : (ts : List Lexeme) (es : List EquId) (t : Lexeme) (e : EquId) → AreEquations ts es → t.sort ≡ Equation e → AreEquations (ts ++ t ∷ []) (es ++ e ∷ [])

-- { E V }
pub data ArePairs : List Lexeme → List (EquId × VarId) → Type 0 where
  no_pairs : ArePairs [] []
  one_pair_more : (ts : List Lexeme) (ps : List (EquId × VarId)) (t u : Lexeme) (e : EquId) (v : VarId) → ArePairs ts ps → t.sort ≡ Equation e → u.sort ≡ Variable v → ArePairs (ts ++ t ∷ u ∷ []) (ps ++ (e, v) ∷ [])

-- { V E }
pub data AreTies : List Lexeme → List (VarId × EquId) → Type 0 where
  no_ties : AreTies [] []
  one_tie_more : (ts : List Lexeme) (ps : List (VarId × EquId)) (t u : Lexeme) (v : VarId) (e : EquId) → AreTies ts ps → t.sort ≡ Variable v → u.sort ≡ Equation e → AreTies (ts ++ t ∷ u ∷ []) (ps ++ (v, e) ∷ [])

-- ---- items
pub data Item : Type 0 where
  block : Block → Item
  duals : List (VarId × EquId) → Item
  visols : List EquId → Item
  implicits : List (VarId × EquId) → Item

pub data IsItem : List Lexeme → Item → Type 0 where
  is_agent : (k t : Lexeme) (sense : Sense) (objective : VarId) (ts us : List Lexeme) (vs : List VarId) (es : List EquId) → k.sort ≡ Agent sense → t.sort ≡ Variable objective → AreVariables ts vs → AreEquations us es → IsItem (k ∷ t ∷ ts ++ us) (block (AgentBlock sense objective vs es))
  is_vi : (k : Lexeme) (ts us ws : List Lexeme) (vs : List VarId) (ps : List (EquId × VarId)) (es : List EquId) → k.sort ≡ Vi → AreVariables ts vs → ArePairs us ps → AreEquations ws es → 0 < length vs + length ps + length es → IsItem (k ∷ ts ++ us ++ ws) (block (ViBlock vs ps es))
  are_duals : (k : Lexeme) (ts : List Lexeme) (ps : List (VarId × EquId)) → k.sort ≡ Dualvar → AreTies ts ps → 0 < length ps → IsItem (k ∷ ts) (duals ps)
  are_visols : (k : Lexeme) (ts : List Lexeme) (es : List EquId) → k.sort ≡ Visol → AreEquations ts es → 0 < length es → IsItem (k ∷ ts) (visols es)
  are_implicits : (k : Lexeme) (ts : List Lexeme) (ps : List (VarId × EquId)) → k.sort ≡ Implicit → AreTies ts ps → 0 < length ps → IsItem (k ∷ ts) (implicits ps)

-- ---- annotations
abbrev pub nothing_yet : Bool → List VarId → Annot
nothing_yet bilevel leader = record { bilevel = bilevel; leader = leader; blocks = []; duals = []; visols = []; implicits = [] }

-- what an item adds
abbrev pub with_item : Annot → Item → Annot
with_item a (block b) = record { bilevel = a.bilevel; leader = a.leader; blocks = a.blocks ++ b ∷ []; duals = a.duals; visols = a.visols; implicits = a.implicits }
with_item a (duals ps) = record { bilevel = a.bilevel; leader = a.leader; blocks = a.blocks; duals = a.duals ++ ps; visols = a.visols; implicits = a.implicits }
with_item a (visols es) = record { bilevel = a.bilevel; leader = a.leader; blocks = a.blocks; duals = a.duals; visols = a.visols ++ es; implicits = a.implicits }
with_item a (implicits ps) = record { bilevel = a.bilevel; leader = a.leader; blocks = a.blocks; duals = a.duals; visols = a.visols; implicits = a.implicits ++ ps }

-- a head and items, each of which adds to what stands before
pub data HasItems : List Lexeme → Annot → Type 0 where
  equilibrium : (t : Lexeme) → t.sort ≡ Equilibrium → HasItems (t ∷ []) (nothing_yet false [])
  bilevel : (t : Lexeme) (ts : List Lexeme) (leader : List VarId) → t.sort ≡ Bilevel → AreVariables ts leader → HasItems (t ∷ ts) (nothing_yet true leader)
  one_item_more : (ts us : List Lexeme) (a : Annot) (i : Item) → HasItems ts a → IsItem us i → HasItems (ts ++ us) (with_item a i)

-- the lexemes stand for the annotation
pub record Stands (ts : List Lexeme) (a : Annot) : Type 0 where
  pub items : HasItems ts a
  pub has_block : 0 < length a.blocks
