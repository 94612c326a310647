-- What the fields of a tree rest on: each node of an expression that is meant has its place.
use Rattle.std.proofs.Common.{◌≡◌, ℕ, ◌+◌, List, [], ◌∷◌, ◌++◌, length, refl, sym, ap, ◌∙◌, length-append}
use Rattle.emp_ast.specs.declared.tree.Place.{Place}
use Rattle.emp_ast.specs.Nodes.{size, nodes_from}
use Rattle.emp_ast.proofs.Trees.{length_nodes}
use Rattle.gms_grammar.specs.declared.lexeme.Sign.TheVariants.{Plus, Minus}
use Rattle.gms_read.specs.declared.draft.Draft.{Draft}
use Rattle.gms_grammar.specs.Grammar.{Written, numeral, name, call, listed, grouped, raised, signed, joined}
use Rattle.gms_read.specs.Expressions.{meaning, places}

one_more : (ps : List Place) (p : Place) (n : ℕ) → length ps ≡ n → length (ps ++ p ∷ []) ≡ n + 1
one_more ps p n h = length-append ps (p ∷ []) ∙ ap (λ k. k + 1) h

sizes : (text : List ℕ) (d : Draft) (e : Written) → length (places e) ≡ size (meaning text d e)
sizes text d (numeral t f) = refl
sizes text d (name t) = refl
sizes text d (call t a) = one_more (places a) t.place _ (sizes text d a)
sizes text d (listed a b) = sizes text d a
sizes text d (grouped e) = sizes text d e
sizes text d (raised e p f) = one_more (places e) p.place _ (sizes text d e)
sizes text d (signed Plus t e) = sizes text d e
sizes text d (signed Minus t e) = one_more (places e) t.place _ (sizes text d e)
sizes text d (joined op t e f) =
    one_more (places e ++ places f) t.place _ (length-append (places e) (places f) ∙ ap (λ k. k + length (places f)) (sizes text d e) ∙ ap (λ k. size (meaning text d e) + k) (sizes text d f))

pub placed : (text : List ℕ) (d : Draft) (e : Written) → length (places e) ≡ length (nodes_from 0 (meaning text d e))
placed text d e = sizes text d e ∙ sym (length_nodes (meaning text d e) 0)
