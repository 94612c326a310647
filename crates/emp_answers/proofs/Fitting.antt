-- The numbers that texts name are those of the model: what an annotation names is printed as a name, and where there is no name there
-- is no letter.
use Rattle.std.proofs.Common.{ℕ, zero, suc, ◌<◌, List, [], ◌∷◌, length, All, subst, slice_index_or, arith}
use Rattle.std.proofs.lemmas.Bool.{false≢true}
use Rattle.std.proofs.lemmas.List.{length-map}
use Rattle.std.proofs.lemmas.List.Elements.{All-cons, All-nil}
use Rattle.emp_ast.specs.declared.tree.VarId.{VarId}
use Rattle.emp_ast.specs.declared.tree.EquId.{EquId}
use Rattle.emp_ast.specs.declared.model.Model.{Model}
use Rattle.emp_ast.specs.declared.annot.Block.{Block}
use Rattle.emp_ast.specs.declared.annot.Block.TheVariants.{Agent, Vi}
use Rattle.emp_ast.specs.declared.annot.Annot.{Annot}
use Rattle.emp_ast.specs.Names.{variable_names, equation_names}
use Rattle.emp_lex.specs.Forms.{IsName}
use Rattle.gms_print.proofs.Soundness.{sound_model}
use Rattle.info_print.proofs.Sound.{Each, GoodVariable, GoodEquation, GoodPair, GoodTie, GoodBlock, GoodAnnot, annot_good, lexemes_good}
use Rattle.emp_problem.specs.Class.{BlockFits, AnnotFits}
use Rattle.emp_answers.specs.Laws.{AnnotationsFit, GoalsFit}

named_below : (names : List (List ℕ)) (k : ℕ) → IsName (slice_index_or names k []) → k < length names
named_below [] zero h = absurd (false≢true h.letter)
named_below [] (suc k) h = absurd (false≢true h.letter)
named_below (n ∷ ns) zero h = omega arith
named_below (n ∷ ns) (suc k) h = omega (arith, named_below ns k h)

all_of : {X : Type 0} (P Q : X → Type 0) (xs : List X) → ((x : X) → P x → Q x) → Each P xs → All Q xs
all_of P Q [] f h = All-nil Q
all_of P Q (x ∷ xs) f h = All-cons Q x xs (f x h.0) (all_of P Q xs f h.1)

module _ (m : Model) where
  abbrev HasVariable : VarId → Type 0
  HasVariable v = v.at < length m.variables

  abbrev HasEquation : EquId → Type 0
  HasEquation e = e.at < length m.equations

  variable_fits : (v : VarId) → GoodVariable m v → HasVariable v
  variable_fits v g = subst (λ n. v.at < n) (length-map m.variables (λ x. x.name)) (named_below (variable_names m) v.at g.form)

  equation_fits : (e : EquId) → GoodEquation m e → HasEquation e
  equation_fits e g = subst (λ n. e.at < n) (length-map m.equations (λ x. x.name)) (named_below (equation_names m) e.at g.form)

  variables_fit : (vs : List VarId) → Each (GoodVariable m) vs → All HasVariable vs
  variables_fit vs g = all_of (GoodVariable m) HasVariable vs variable_fits g

  equations_fit : (es : List EquId) → Each (GoodEquation m) es → All HasEquation es
  equations_fit es g = all_of (GoodEquation m) HasEquation es equation_fits g

  pairs_fit : (ps : List (EquId × VarId)) → Each (GoodPair m) ps → All (λ q. HasEquation q.0 × HasVariable q.1) ps
  pairs_fit ps g = all_of (GoodPair m) (λ q. HasEquation q.0 × HasVariable q.1) ps (λ q h. (equation_fits q.0 h.0, variable_fits q.1 h.1)) g

  ties_fit : (ps : List (VarId × EquId)) → Each (GoodTie m) ps → All (λ q. HasVariable q.0 × HasEquation q.1) ps
  ties_fit ps g = all_of (GoodTie m) (λ q. HasVariable q.0 × HasEquation q.1) ps (λ q h. (variable_fits q.0 h.0, equation_fits q.1 h.1)) g

  block_fits : (b : Block) → GoodBlock m b → BlockFits (length m.variables) (length m.equations) b
  block_fits (Agent sense objective vs es) g = (variable_fits objective g.0, variables_fit vs g.1.0, equations_fit es g.1.1)
  block_fits (Vi vs ps es) g = (variables_fit vs g.0, pairs_fit ps g.1.0, equations_fit es g.1.1)

  annot_fits : (a : Annot) → GoodAnnot m a → AnnotFits m a
  annot_fits a g = record {
    leader = variables_fit a.leader g.leader;
    blocks = all_of (GoodBlock m) (BlockFits (length m.variables) (length m.equations)) a.blocks block_fits g.blocks;
    duals = ties_fit a.duals g.duals;
    visols = equations_fit a.visols g.visols;
    implicits = ties_fit a.implicits g.implicits;
  }

pub annotations_fit : AnnotationsFit
annotations_fit text m a t = annot_fits m a (annot_good m t.stands.items (lexemes_good m text t.lexemes t.has))

pub goals_fit : GoalsFit
goals_fit m t = (sound_model m t).goal
