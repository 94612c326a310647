-- The machine and the grammar agree.
use Rattle.std.proofs.Common.{◌≡◌, List, [], ◌∷◌, Option, Some, None, sym, ◌∙◌}
use Rattle.gms_grammar.specs.declared.kind.Kind.{Kind}
use Rattle.gms_grammar.specs.declared.lexeme.Lexeme.{Lexeme}
use Rattle.gms_grammar.specs.declared.item.Item.{Item}
use Rattle.gms_grammar.specs.declared.symbol.Symbol.TheVariants.{File}
use Rattle.gms_grammar.specs.Grammar.{Statement, IsFileOf}
use Rattle.gms_grammar.specs.Items.{items_of}
use Rattle.gms_grammar.specs.Syntax.{StandsForNone}
use Rattle.gms_grammar.specs.Steps.{AreItems}
use Rattle.gms_grammar.specs.Machine.{run}
use Rattle.gms_grammar.proofs.Writing.{runs, reads}
use Rattle.gms_grammar.proofs.Meanings.{sound}
use Rattle.gms_grammar.proofs.Complete.{file_read}

-- the machine from the beginning of a text
abbrev pub reading : Kind → List Lexeme → Option (List Item)
reading k ts = run (File k ∷ []) [] ts

same_items : (v w : List Item) → Some v ≡ Some w → v ≡ w
same_items v w e = cc

-- lexemes stand for no two statements with other items
pub one_items : (k : Kind) (ts : List Lexeme) (ss us : List Statement) → IsFileOf k ts ss → IsFileOf k ts us → items_of ss ≡ items_of us
one_items k ts ss us h i = same_items (items_of ss) (items_of us) (sym (runs [] (file_read h)) ∙ runs [] (file_read i))

pub accepted : (k : Kind) (ts : List Lexeme) (v : List Item) → reading k ts ≡ Some v → AreItems k ts v
accepted k ts v e =
    let r = reads ts v (File k ∷ []) [] e in
    let s = sound r.writes in
    record { statements = s.statements; file = s.file; are = r.same ∙ s.are }

pub none_some : (v : List Item) (o : Option (List Item)) → o ≡ None → o ≡ Some v → ⊥
none_some v o e f = cc

pub refused : (k : Kind) (ts : List Lexeme) → reading k ts ≡ None → StandsForNone k ts
refused k ts e ss h = none_some (items_of ss) (reading k ts) e (runs [] (file_read h))
