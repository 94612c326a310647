-- The items of an expression add its nodes, or break the first rule that it breaks.
use Rattle.std.proofs.Common.{◌≡◌, ℕ, ◌+◌, ◌-◌, Bool, true, false, cond, not, ◌&&◌, List, [], ◌∷◌, ◌++◌, length, Option, Some, None, Result, Ok, Err, refl, sym, ap, ◌∙◌, arith, append_assoc, length-append}
use Rattle.std.proofs.lemmas.Bool.{false≢true}
use Rattle.emp_num.specs.declared.frac.Frac.{Frac}
use Rattle.emp_ast.specs.declared.tree.Place.{Place}
use Rattle.emp_ast.specs.declared.tree.Operator.{Operator}
use Rattle.emp_ast.specs.declared.tree.Node.{Node}
use Rattle.emp_ast.specs.declared.tree.Node.TheVariants.{Neg, Power}
use Rattle.emp_ast.specs.Expression.{Expression, number, variable, joined as joined_with, power}
use Rattle.emp_ast.specs.Nodes.{size, root, nodes_from, join_node}
use Rattle.emp_ast.proofs.Trees.{length_nodes}
use Rattle.gms_grammar.specs.declared.lexeme.Word.TheVariants.{Square, Power as PowerWord}
use Rattle.gms_grammar.specs.declared.lexeme.Sign.{Sign}
use Rattle.gms_grammar.specs.declared.lexeme.Sign.TheVariants.{Plus, Minus}
use Rattle.gms_grammar.specs.declared.lexeme.Sort.{Sort}
use Rattle.gms_grammar.specs.declared.lexeme.Sort.TheVariants.{Name as IsName}
use Rattle.gms_grammar.specs.declared.lexeme.Lexeme.{Lexeme}
use Rattle.gms_grammar.specs.declared.item.Item.{Item}
use Rattle.gms_grammar.specs.declared.item.Item.TheVariants.{Number, Enters, Lists, Applies, Groups, Raises, Signs, Joins}
use Rattle.gms_grammar.specs.declared.fault.ModelFault.{ModelFault}
use Rattle.gms_grammar.specs.declared.fault.ModelFault.TheVariants.{Undeclared, Function}
use Rattle.gms_read.specs.declared.progress.Second.TheVariants.{Absent}
use Rattle.gms_read.specs.declared.progress.Progress.{Progress}
use Rattle.gms_grammar.specs.Grammar.{Written, numeral, name, call, listed, grouped, raised, signed, joined}
use Rattle.gms_grammar.specs.Items.{written_items}
use Rattle.gms_read.specs.Rules.{or_else, fault_where, is_none, is_exponent, exponent, or_zero, is_one_argument, is_power_of, is_function, second_exponent, variable_of, expression_fault, meaning, places}
use Rattle.gms_read.specs.Sides.{name_by, raise_by}
use Rattle.gms_read.specs.Performing.{with_side, on_side, next_step, item_step, all_steps}
use Rattle.gms_grammar.proofs.Formed.{IsFormed}
use Rattle.gms_read.proofs.Arguments.{accepted}

-- ---- faults
abbrev pub unless : Option ModelFault → Result Progress ModelFault → Result Progress ModelFault
unless (Some f) r = Err f
unless None r = r

pub unless_or : (a b : Option ModelFault) (r : Result Progress ModelFault) → unless (or_else a b) r ≡ unless a (unless b r)
unless_or (Some f) b r = refl
unless_or None b r = refl

-- ---- numbers of nodes
behind_nodes : (ns : List Node) (e : Expression) → length (ns ++ nodes_from (length ns) e) ≡ length ns + size e
behind_nodes ns e = length-append ns (nodes_from (length ns) e) ∙ ap (λ k. length ns + k) (length_nodes e (length ns))

last_node : (n k : ℕ) → n + k ≡ n + (k + 1) - 1
last_node n k = omega arith

first_node : (n : ℕ) → n ≡ n + 1 - 1
first_node n = omega arith

-- ---- a side with its nodes, places and roots
abbrev pub reading : Progress → List Node → List Place → List ℕ → Progress
reading p ns ps rs = with_side p (record { nodes = ns; places = ps; roots = rs; second = Absent })

same_reading : (text : List ℕ) (p : Progress) (ns ms : List Node) (ps qs : List Place) (r s : ℕ) (rs : List ℕ) (rest : List Item) → ns ≡ ms → ps ≡ qs → r ≡ s → all_steps text (reading p ns ps (r ∷ rs)) rest ≡ all_steps text (reading p ms qs (s ∷ rs)) rest
same_reading text p ns ms ps qs r s rs rest a b c =
    ap (λ z. all_steps text (reading p z ps (r ∷ rs)) rest) a
    ∙ ap (λ z. all_steps text (reading p ms z (r ∷ rs)) rest) b
    ∙ ap (λ z. all_steps text (reading p ms qs (z ∷ rs)) rest) c

-- behind an expression with that meaning and those places
abbrev read_to : List ℕ → Progress → List Node → List Place → List ℕ → Expression → List Place → List Item → Result Progress ModelFault
read_to text p ns ps rs e qs rest = all_steps text (reading p (ns ++ nodes_from (length ns) e) (ps ++ qs) (root (length ns) e ∷ rs)) rest

-- the items of the expression, whatever stands before and behind
abbrev pub Reads : List ℕ → Progress → Written → Type 0
Reads text p w = (ns : List Node) (ps : List Place) (rs : List ℕ) (rest : List Item) → all_steps text (reading p ns ps rs) (written_items w ++ rest) ≡ unless (expression_fault text p.draft w) (read_to text p ns ps rs (meaning text p.draft w) (places w) rest)

-- as the arguments of a function
abbrev ReadsArguments : List ℕ → Progress → Written → Type 0
ReadsArguments text p a = (t : Lexeme) (ns : List Node) (ps : List Place) (rs : List ℕ) (rest : List Item) → all_steps text (reading p ns ps rs) (written_items a ++ Applies t ∷ rest) ≡ unless (expression_fault text p.draft a) (read_to text p ns ps rs (power (meaning text p.draft a) (second_exponent a)) (places a ++ t.place ∷ []) rest)

-- ---- one node more, over one operand
one_more : (text : List ℕ) (p : Progress) (ns : List Node) (ps : List Place) (rs : List ℕ) (e : Expression) (qs : List Place) (x : Node) (place : Place) (rest : List Item) → all_steps text (reading p (ns ++ nodes_from (length ns) e ++ x ∷ []) (ps ++ qs ++ place ∷ []) (length (ns ++ nodes_from (length ns) e) ∷ rs)) rest ≡ all_steps text (reading p (ns ++ (nodes_from (length ns) e ++ x ∷ [])) (ps ++ (qs ++ place ∷ [])) ((length ns + (size e + 1) - 1) ∷ rs)) rest
one_more text p ns ps rs e qs x place rest =
    same_reading text p (ns ++ nodes_from (length ns) e ++ x ∷ []) (ns ++ (nodes_from (length ns) e ++ x ∷ [])) (ps ++ qs ++ place ∷ []) (ps ++ (qs ++ place ∷ [])) (length (ns ++ nodes_from (length ns) e)) (length ns + (size e + 1) - 1) rs rest
    (append_assoc ns (nodes_from (length ns) e) (x ∷ []))
    (append_assoc ps qs (place ∷ []))
    (behind_nodes ns e ∙ last_node (length ns) (size e))

-- one item behind an expression
then_item : (text : List ℕ) (p : Progress) (e : Written) (i : Item) (ns : List Node) (ps : List Place) (rs : List ℕ) (rest : List Item) → Reads text p e → all_steps text (reading p ns ps rs) (written_items e ++ i ∷ [] ++ rest) ≡ unless (expression_fault text p.draft e) (read_to text p ns ps rs (meaning text p.draft e) (places e) (i ∷ rest))
then_item text p e i ns ps rs rest h = ap (all_steps text (reading p ns ps rs)) (append_assoc (written_items e) (i ∷ []) rest) ∙ h ns ps rs (i ∷ rest)

read_numeral : (text : List ℕ) (p : Progress) (t : Lexeme) (f : Frac) → Reads text p (numeral t f)
read_numeral text p t f ns ps rs rest = ap (λ r. all_steps text (reading p (ns ++ nodes_from (length ns) (number f)) (ps ++ t.place ∷ []) (r ∷ rs)) rest) (first_node (length ns))

read_name : (text : List ℕ) (p : Progress) (t : Lexeme) → Reads text p (name t)
read_name text p t ns ps rs rest = go (variable_of text p.draft t)
  where
    go : (o : Option ℕ) → next_step (on_side (reading p ns ps rs) (name_by (reading p ns ps rs).side t.place o)) (λ q. all_steps text q rest) ≡ unless (fault_where (is_none o) (Undeclared t.place)) (read_to text p ns ps rs (variable (or_zero o)) (t.place ∷ []) rest)
    go None = refl
    go (Some k) = ap (λ r. all_steps text (reading p (ns ++ nodes_from (length ns) (variable k)) (ps ++ t.place ∷ []) (r ∷ rs)) rest) (first_node (length ns))

read_grouped : (text : List ℕ) (p : Progress) (e : Written) → Reads text p e → Reads text p (grouped e)
read_grouped text p e h ns ps rs rest = then_item text p e Groups ns ps rs rest h

read_raised : (text : List ℕ) (p : Progress) (e : Written) (t : Lexeme) (f : Frac) → Reads text p e → Reads text p (raised e t f)
read_raised text p e t f h ns ps rs rest =
    then_item text p e (Raises t f) ns ps rs rest h
    ∙ ap (unless (expression_fault text p.draft e)) (go (exponent f))
    ∙ sym (unless_or (expression_fault text p.draft e) (fault_where (not (is_exponent f)) (Function t.place)) (read_to text p ns ps rs (power (meaning text p.draft e) (or_zero (exponent f))) (places e ++ t.place ∷ []) rest))
  where
    go : (o : Option ℕ) → next_step (on_side (reading p (ns ++ nodes_from (length ns) (meaning text p.draft e)) (ps ++ places e) (root (length ns) (meaning text p.draft e) ∷ rs)) (raise_by (reading p (ns ++ nodes_from (length ns) (meaning text p.draft e)) (ps ++ places e) (root (length ns) (meaning text p.draft e) ∷ rs)).side t.place o)) (λ q. all_steps text q rest) ≡ unless (fault_where (not (not (is_none o))) (Function t.place)) (read_to text p ns ps rs (power (meaning text p.draft e) (or_zero o)) (places e ++ t.place ∷ []) rest)
    go None = refl
    go (Some k) = one_more text p ns ps rs (meaning text p.draft e) (places e) (Power (root (length ns) (meaning text p.draft e)) k) t.place rest

read_signed : (text : List ℕ) (p : Progress) (s : Sign) (t : Lexeme) (e : Written) → Reads text p e → Reads text p (signed s t e)
read_signed text p Plus t e h ns ps rs rest = then_item text p e (Signs Plus t) ns ps rs rest h
read_signed text p Minus t e h ns ps rs rest =
    then_item text p e (Signs Minus t) ns ps rs rest h
    ∙ ap (unless (expression_fault text p.draft e)) (one_more text p ns ps rs (meaning text p.draft e) (places e) (Neg (root (length ns) (meaning text p.draft e))) t.place rest)

-- ---- over two operands
joined_nodes : (ns ls ms : List Node) (x : Node) → ns ++ ls ++ ms ++ x ∷ [] ≡ ns ++ (ls ++ ms ++ x ∷ [])
joined_nodes ns ls ms x = ap (λ l. l ++ x ∷ []) (append_assoc ns ls ms) ∙ append_assoc ns (ls ++ ms) (x ∷ [])

joined_places : (ps ls ms : List Place) (x : Place) → ps ++ ls ++ ms ++ x ∷ [] ≡ ps ++ (ls ++ ms ++ x ∷ [])
joined_places ps ls ms x = ap (λ l. l ++ x ∷ []) (append_assoc ps ls ms) ∙ append_assoc ps (ls ++ ms) (x ∷ [])

last_joined : (n j k : ℕ) → n + j + k ≡ n + (j + k + 1) - 1
last_joined n j k = omega arith

-- the second operand is numbered from where the first one ends
join_more : (text : List ℕ) (p : Progress) (ns : List Node) (ps : List Place) (rs : List ℕ) (op : Operator) (e f : Expression) (qs us : List Place) (place : Place) (rest : List Item) (n : ℕ) → length (ns ++ nodes_from (length ns) e) ≡ n → all_steps text (reading p (ns ++ nodes_from (length ns) e ++ nodes_from n f ++ join_node op (root (length ns) e) (root n f) ∷ []) (ps ++ qs ++ us ++ place ∷ []) (length (ns ++ nodes_from (length ns) e ++ nodes_from n f) ∷ rs)) rest ≡ read_to text p ns ps rs (joined_with op e f) (qs ++ us ++ place ∷ []) rest
join_more text p ns ps rs op e f qs us place rest n h =
    let k : n ≡ length ns + size e = sym h ∙ behind_nodes ns e in
    let l : length (ns ++ nodes_from (length ns) e ++ nodes_from n f) ≡ length ns + size e + size f = length-append (ns ++ nodes_from (length ns) e) (nodes_from n f) ∙ ap (λ m. m + length (nodes_from n f)) (behind_nodes ns e) ∙ ap (λ m. length ns + size e + m) (length_nodes f n) in
    same_reading text p
    (ns ++ nodes_from (length ns) e ++ nodes_from n f ++ join_node op (root (length ns) e) (root n f) ∷ [])
    (ns ++ (nodes_from (length ns) e ++ nodes_from (length ns + size e) f ++ join_node op (root (length ns) e) (root (length ns + size e) f) ∷ []))
    (ps ++ qs ++ us ++ place ∷ [])
    (ps ++ (qs ++ us ++ place ∷ []))
    (length (ns ++ nodes_from (length ns) e ++ nodes_from n f))
    (length ns + (size e + size f + 1) - 1)
    rs
    rest
    (joined_nodes ns (nodes_from (length ns) e) (nodes_from n f) (join_node op (root (length ns) e) (root n f)) ∙ ap (λ m. ns ++ (nodes_from (length ns) e ++ nodes_from m f ++ join_node op (root (length ns) e) (root m f) ∷ [])) k)
    (joined_places ps qs us place)
    (l ∙ last_joined (length ns) (size e) (size f))

read_joined : (text : List ℕ) (p : Progress) (op : Operator) (t : Lexeme) (e f : Written) → Reads text p e → Reads text p f → Reads text p (joined op t e f)
read_joined text p op t e f h k ns ps rs rest =
    let d = p.draft in
    let ms : List Node = ns ++ nodes_from (length ns) (meaning text d e) in
    ap (all_steps text (reading p ns ps rs)) (append_assoc (written_items e ++ written_items f) (Joins op t ∷ []) rest ∙ append_assoc (written_items e) (written_items f) (Joins op t ∷ rest))
    ∙ h ns ps rs (written_items f ++ Joins op t ∷ rest)
    ∙ ap (unless (expression_fault text d e))
    (k ms (ps ++ places e) (root (length ns) (meaning text d e) ∷ rs) (Joins op t ∷ rest)
    ∙ ap (unless (expression_fault text d f)) (join_more text p ns ps rs op (meaning text d e) (meaning text d f) (places e) (places f) t.place rest (length ms) refl))
    ∙ sym (unless_or (expression_fault text d e) (expression_fault text d f) (read_to text p ns ps rs (joined_with op (meaning text d e) (meaning text d f)) (places e ++ places f ++ t.place ∷ []) rest))

-- ---- functions
-- one argument
apply_one : (text : List ℕ) (p : Progress) (a : Written) → second_exponent a ≡ 2 → Reads text p a → ReadsArguments text p a
apply_one text p a two h t ns ps rs rest =
    h ns ps rs (Applies t ∷ rest)
    ∙ ap (unless (expression_fault text p.draft a))
    (one_more text p ns ps rs (meaning text p.draft a) (places a) (Power (root (length ns) (meaning text p.draft a)) 2) t.place rest
    ∙ ap (λ n. read_to text p ns ps rs (power (meaning text p.draft a) n) (places a ++ t.place ∷ []) rest) (sym two))

-- an argument and an exponent
apply_power : (text : List ℕ) (p : Progress) (a : Written) (u : Lexeme) (f : Frac) → Reads text p a → ReadsArguments text p (listed a (numeral u f))
apply_power text p a u f h t ns ps rs rest =
    let e = meaning text p.draft a in
    ap (all_steps text (reading p ns ps rs)) (append_assoc (written_items a) (Lists ∷ Number u f ∷ []) (Applies t ∷ rest))
    ∙ h ns ps rs (Lists ∷ Number u f ∷ Applies t ∷ rest)
    ∙ ap (unless (expression_fault text p.draft a)) (one_more text p ns ps rs e (places a) (Power (root (length ns) e) (or_zero (exponent f))) t.place rest)
    ∙ sym (unless_or (expression_fault text p.draft a) None (read_to text p ns ps rs (power e (or_zero (exponent f))) (places a ++ t.place ∷ []) rest))

one_and : (a b : Bool) → a && b ≡ true → a ≡ true
one_and true b h = refl
one_and false b h = absurd (false≢true h)

-- a function of arguments that a comma parts is a power
is_power_call : (s : Sort) (a b : Written) → is_function s (listed a b) ≡ true → is_power_of a b ≡ true
is_power_call (IsName Square) a b h = absurd (false≢true h)
is_power_call (IsName PowerWord) a b h = h
is_power_call s a b h = absurd (false≢true h)

formed_one : (a : Written) → IsFormed a true → is_one_argument a ≡ true → IsFormed a false
formed_one (numeral t f) h k = tt
formed_one (name t) h k = tt
formed_one (call t a) h k = h
formed_one (listed a b) h k = absurd (false≢true k)
formed_one (grouped e) h k = h
formed_one (raised e p f) h k = h
formed_one (signed s t e) h k = h
formed_one (joined op t e f) h k = h

apply_listed : (text : List ℕ) (p : Progress) (a b : Written) → is_power_of a b ≡ true → (is_one_argument a ≡ true → Reads text p a) → ReadsArguments text p (listed a b)
apply_listed text p a (numeral u f) h k = apply_power text p a u f (k (one_and (is_one_argument a) (is_exponent f) h))
apply_listed text p a b h k = absurd (false≢true h)

-- the function's rule is tried first
read_call : (text : List ℕ) (p : Progress) (t : Lexeme) (a : Written) → IsFormed a true → (is_function t.sort a ≡ true → ReadsArguments text p a) → Reads text p (call t a)
read_call text p t a formed h ns ps rs rest =
    let e : written_items a ++ Applies t ∷ [] ++ rest ≡ written_items a ++ Applies t ∷ rest = append_assoc (written_items a) (Applies t ∷ []) rest in
    ap (λ is. next_step (item_step text (reading p ns ps rs) (Enters t) is) (λ q. all_steps text q is)) e
    ∙ ap (λ b. next_step (on_side (reading p ns ps rs) (cond b (Ok (reading p ns ps rs).side) (Err (Function t.place)))) (λ q. all_steps text q (written_items a ++ Applies t ∷ rest))) (accepted t.sort a t rest formed)
    ∙ go (is_function t.sort a) (λ k. h k t ns ps rs rest)
  where
    go : (b : Bool) → (b ≡ true → all_steps text (reading p ns ps rs) (written_items a ++ Applies t ∷ rest) ≡ unless (expression_fault text p.draft a) (read_to text p ns ps rs (power (meaning text p.draft a) (second_exponent a)) (places a ++ t.place ∷ []) rest)) → next_step (on_side (reading p ns ps rs) (cond b (Ok (reading p ns ps rs).side) (Err (Function t.place)))) (λ q. all_steps text q (written_items a ++ Applies t ∷ rest)) ≡ unless (or_else (fault_where (not b) (Function t.place)) (expression_fault text p.draft a)) (read_to text p ns ps rs (power (meaning text p.draft a) (second_exponent a)) (places a ++ t.place ∷ []) rest)
    go true k = k refl
    go false k = refl

-- ---- every expression
record Both (text : List ℕ) (p : Progress) (w : Written) : Type 0 where
  alone : IsFormed w false → Reads text p w
  within : (s : Sort) → IsFormed w true → is_function s w ≡ true → ReadsArguments text p w

both : (text : List ℕ) (p : Progress) (w : Written) → (IsFormed w true → IsFormed w false) → second_exponent w ≡ 2 → (IsFormed w false → Reads text p w) → Both text p w
both text p w one two h = record { alone = h; within = λ s formed k. apply_one text p w two (h (one formed)) }

reads : (text : List ℕ) (p : Progress) (w : Written) → Both text p w
reads text p (numeral t f) = both text p (numeral t f) (λ h. h) refl (λ h. read_numeral text p t f)
reads text p (name t) = both text p (name t) (λ h. h) refl (λ h. read_name text p t)
reads text p (call t a) = both text p (call t a) (λ h. h) refl (λ h. read_call text p t a h ((reads text p a).within t.sort h))
reads text p (listed a b) = record {
  alone = λ h. absurd h;
  within = λ s h k. apply_listed text p a b (is_power_call s a b k) (λ o. (reads text p a).alone (formed_one a h.0 o));
}
reads text p (grouped e) = both text p (grouped e) (λ h. h) refl (λ h. read_grouped text p e ((reads text p e).alone h))
reads text p (raised e t f) = both text p (raised e t f) (λ h. h) refl (λ h. read_raised text p e t f ((reads text p e).alone h))
reads text p (signed s t e) = both text p (signed s t e) (λ h. h) refl (λ h. read_signed text p s t e ((reads text p e).alone h))
reads text p (joined op t e f) = both text p (joined op t e f) (λ h. h) refl (λ h. read_joined text p op t e f ((reads text p e).alone h.0) ((reads text p f).alone h.1))

-- the items of an expression that the grammar gives
pub read_written : (text : List ℕ) (p : Progress) (w : Written) → IsFormed w false → Reads text p w
read_written text p w h = (reads text p w).alone h
