-- What performing and finishing give.
use Rattle.std.specs.Prelude.{◌≡◌, ◌⊎◌, ℕ, List, Result, Ok, Err}
use Rattle.emp_ast.specs.declared.model.Model.{Model}
use Rattle.gms_grammar.specs.declared.kind.Kind.{Kind}
use Rattle.gms_grammar.specs.declared.lexeme.Lexeme.{Lexeme}
use Rattle.gms_grammar.specs.declared.item.Item.{Item}
use Rattle.gms_grammar.specs.declared.fault.ModelFault.{ModelFault}
use Rattle.gms_grammar.specs.declared.fault.ModelFault.TheVariants.{NoMemory}
use Rattle.gms_grammar.specs.Grammar.{Statement, IsFileOf}
use Rattle.gms_grammar.specs.Items.{items_of}
use Rattle.gms_read.specs.declared.draft.Draft.{Draft}
use Rattle.gms_read.specs.Rules.{after_all, nothing_yet}
use Rattle.gms_read.specs.Texts.{HasStatementsOf}

-- whatever statements of a file the items are of, the draft is what they give, or the fault is the first that they have
abbrev pub DraftsAll : Kind → List ℕ → List Item → Result Draft ModelFault → Type 0
DraftsAll kind text items (Ok d) = (ts : List Lexeme) (ss : List Statement) → IsFileOf kind ts ss → items ≡ items_of ss → after_all text nothing_yet ss ≡ Ok d
DraftsAll kind text items (Err f) = (f ≡ NoMemory) ⊎ ((ts : List Lexeme) (ss : List Statement) → IsFileOf kind ts ss → items ≡ items_of ss → after_all text nothing_yet ss ≡ Err f)

-- the model of a draft, or the fault that it has; want of memory says nothing
abbrev pub FinishesAs : Result Model ModelFault → Result Model ModelFault → Type 0
FinishesAs r (Ok m) = r ≡ Ok m
FinishesAs r (Err f) = (f ≡ NoMemory) ⊎ (r ≡ Err f)

-- the statements of a text of the kind give the draft, and the items are theirs
pub record HasDraft (kind : Kind) (text : List ℕ) (items : List Item) (draft : Draft) : Type 0 where
  pub statements : List Statement
  pub has : HasStatementsOf kind text statements
  pub are : items ≡ items_of statements
  pub drafted : after_all text nothing_yet statements ≡ Ok draft
