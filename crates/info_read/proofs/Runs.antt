-- The machine over lists of lexemes.
use Rattle.std.proofs.Common.{◌≡◌, List, [], ◌∷◌, ◌++◌, Option, Some, None, refl, ap, ◌∙◌}
use Rattle.info_read.specs.declared.lexeme.Sort.{Sort}
use Rattle.info_read.specs.declared.lexeme.Lexeme.{Lexeme}
use Rattle.info_read.specs.declared.draft.Draft.{Draft}
use Rattle.info_read.specs.Machine.{step, run, then}

joined_by : (ts us : List Lexeme) (o : Option Draft) → ((e : Draft) → run e (ts ++ us) ≡ then (run e ts) (λ f. run f us)) → then o (λ e. run e (ts ++ us)) ≡ then (then o (λ e. run e ts)) (λ f. run f us)
joined_by ts us None rest = refl
joined_by ts us (Some e) rest = rest e

pub joined : (ts us : List Lexeme) (d : Draft) → run d (ts ++ us) ≡ then (run d ts) (λ e. run e us)
joined [] us d = refl
joined (t ∷ ts) us d = joined_by ts us (step d t.sort) (joined ts us)

pub onward : (d e : Draft) (o : Option Draft) (ts us : List Lexeme) → run d ts ≡ Some e → run e us ≡ o → run d (ts ++ us) ≡ o
onward d e o ts us h k = joined ts us d ∙ (ap (λ x. then x (λ f. run f us)) h ∙ k)

pub first : (d e : Draft) (o : Option Draft) (t : Lexeme) (ts : List Lexeme) → step d t.sort ≡ Some e → run e ts ≡ o → run d (t ∷ ts) ≡ o
first d e o t ts h k = ap (λ x. then x (λ f. run f ts)) h ∙ k

pub one : (d : Draft) (o : Option Draft) (t : Lexeme) (q : Sort) → t.sort ≡ q → step d q ≡ o → run d (t ∷ []) ≡ o
one d o t q p h = ap (λ x. then x (λ f. run f [])) (ap (step d) p ∙ h) ∙ alone o
  where
    alone : (o : Option Draft) → then o (λ f. run f []) ≡ o
    alone None = refl
    alone (Some f) = refl
