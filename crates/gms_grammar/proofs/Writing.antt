-- What the machine writes, as a relation, and the machine as a function.
use Rattle.std.proofs.Common.{◌≡◌, List, [], ◌∷◌, ◌++◌, Option, Some, None, refl, sym, ap, ◌∙◌, append_assoc, append-nil}
use Rattle.std.specs.Option.{option_to_list}
use Rattle.gms_grammar.specs.declared.lexeme.Lexeme.{Lexeme}
use Rattle.gms_grammar.specs.declared.item.Item.{Item}
use Rattle.gms_grammar.specs.declared.symbol.Symbol.{Symbol}
use Rattle.gms_grammar.specs.declared.symbol.Symbol.TheVariants.{Semicolons}
use Rattle.gms_grammar.specs.declared.symbol.Next.{Next}
use Rattle.gms_grammar.specs.declared.symbol.Move.{Move}
use Rattle.gms_grammar.specs.declared.symbol.Move.TheVariants.{Fail, Skip, Take}
use Rattle.gms_grammar.specs.Machine.{move, symbols, add, by_move, step, run, run_from}

-- from the stack on the machine takes the lexemes and writes the items
pub data Writes : List Symbol → List Lexeme → List Item → Type 0 where
  over : Writes (Semicolons ∷ []) [] []
  takes : {x : Symbol} {s : List Symbol} {t : Lexeme} {ts : List Lexeme} {w : List Item} {item : Option Item} {next : Next} → move x t.sort t ≡ Take item next → Writes (symbols next ++ s) ts w → Writes (x ∷ s) (t ∷ ts) (option_to_list item ++ w)
  skips : {x : Symbol} {s : List Symbol} {t : Lexeme} {ts : List Lexeme} {w : List Item} {item : Option Item} → move x t.sort t ≡ Skip item → Writes s (t ∷ ts) w → Writes (x ∷ s) (t ∷ ts) (option_to_list item ++ w)

add_is : (out : List Item) (item : Option Item) (w : List Item) → add out item ++ w ≡ out ++ (option_to_list item ++ w)
add_is out None w = refl
add_is out (Some item) w = append_assoc out (item ∷ []) w

-- ---- what is written is the result
pub runs : {s : List Symbol} {ts : List Lexeme} {w : List Item} (out : List Item) → Writes s ts w → run s out ts ≡ Some (out ++ w)
runs out over = ap Some (sym (append-nil out))
runs out (takes {s = s} {t = t} {ts = ts} {w = w} {item = item} e h) =
    ap (λ m. run_from (by_move m s out (λ o. step s o t)) ts) e ∙ (runs (add out item) h ∙ ap Some (add_is out item w))
runs out (skips {s = s} {t = t} {ts = ts} {w = w} {item = item} e h) =
    ap (λ m. run_from (by_move m s out (λ o. step s o t)) ts) e ∙ (runs (add out item) h ∙ ap Some (add_is out item w))

-- ---- a result is what is written
pub record Reads (s : List Symbol) (out : List Item) (ts : List Lexeme) (v : List Item) : Type 0 where
  pub written : List Item
  pub writes : Writes s ts written
  pub same : v ≡ out ++ written

inside : (v w : List Item) → Some v ≡ Some w → v ≡ w
inside v w e = cc

reads_end : (s : List Symbol) (out v : List Item) → run s out [] ≡ Some v → Reads s out [] v
reads_end (Semicolons ∷ []) out v e = record { written = []; writes = over; same = sym (inside out v e) ∙ sym (append-nil out) }
reads_end s out v e = cc

module _ (t : Lexeme) (ts : List Lexeme) (v : List Item) where
  reads_move : (x : Symbol) (s : List Symbol) (out : List Item) (m : Move) → move x t.sort t ≡ m → ((r : List Symbol) (o : List Item) → run r o ts ≡ Some v → Reads r o ts v) → ((o : List Item) → run s o (t ∷ ts) ≡ Some v → Reads s o (t ∷ ts) v) → run_from (by_move m s out (λ o. step s o t)) ts ≡ Some v → Reads (x ∷ s) out (t ∷ ts) v
  reads_move x s out Fail p later here e = cc
  reads_move x s out (Skip item) p later here e =
      let r = here (add out item) e in
      record { written = option_to_list item ++ r.written; writes = skips p r.writes; same = r.same ∙ add_is out item r.written }
  reads_move x s out (Take item next) p later here e =
      let r = later (symbols next ++ s) (add out item) e in
      record { written = option_to_list item ++ r.written; writes = takes p r.writes; same = r.same ∙ add_is out item r.written }

  reads_one : (s : List Symbol) (out : List Item) → ((r : List Symbol) (o : List Item) → run r o ts ≡ Some v → Reads r o ts v) → run s out (t ∷ ts) ≡ Some v → Reads s out (t ∷ ts) v
  reads_one [] out later e = cc
  reads_one (x ∷ s) out later e = reads_move x s out (move x t.sort t) refl later (λ o k. reads_one s o later k) e

pub reads : (ts : List Lexeme) (v : List Item) (s : List Symbol) (out : List Item) → run s out ts ≡ Some v → Reads s out ts v
reads [] v s out e = reads_end s out v e
reads (t ∷ ts) v s out e = reads_one t ts v s out (reads ts v) e
