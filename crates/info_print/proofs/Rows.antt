-- Lexemes of the sorts of a printed annotation stand for it.
use Rattle.std.proofs.Common.{◌≡◌, ◌+◌, ◌<◌, Bool, true, false, List, [], ◌∷◌, ◌++◌, length, flat_map, refl, sym, ap, subst, ◌∙◌, append_assoc, append-nil, arith}
use Rattle.emp_ast.specs.declared.tree.VarId.{VarId}
use Rattle.emp_ast.specs.declared.tree.EquId.{EquId}
use Rattle.emp_ast.specs.declared.annot.Block.{Block}
use Rattle.emp_ast.specs.declared.annot.Block.TheVariants.{Agent as AgentBlock, Vi as ViBlock}
use Rattle.emp_ast.specs.declared.annot.Annot.{Annot}
use Rattle.info_read.specs.declared.lexeme.Sort.{Sort}
use Rattle.info_read.specs.declared.lexeme.Sort.TheVariants.{Equilibrium, Bilevel, Agent, Vi, Dualvar, Visol, Implicit, Variable, Equation}
use Rattle.info_read.specs.declared.lexeme.Lexeme.{Lexeme}
use Rattle.info_read.specs.Grammar.{AreVariables, no_variables, one_variable_more, AreEquations, no_equations, one_equation_more, ArePairs, no_pairs, one_pair_more, AreTies, no_ties, one_tie_more, block, duals, visols, implicits, IsItem, is_agent, is_vi, are_duals, are_visols, are_implicits, nothing_yet, with_item, HasItems, equilibrium, bilevel, one_item_more}
use Rattle.info_print.proofs.Words.{SortsAre}

-- ---- rows of sorts
record Split (ts : List Lexeme) (xs ys : List Sort) : Type 0 where
  front : List Lexeme
  back : List Lexeme
  is : ts ≡ front ++ back
  front_are : SortsAre front xs
  back_are : SortsAre back ys

split : (ts : List Lexeme) (xs ys : List Sort) → SortsAre ts (xs ++ ys) → Split ts xs ys
split ts [] ys h = record { front = []; back = ts; is = refl; front_are = tt; back_are = h }
split [] (x ∷ xs) ys h = absurd h
split (t ∷ ts) (x ∷ xs) ys h =
    let r = split ts xs ys h.1 in
    record { front = t ∷ r.front; back = r.back; is = ap (λ y. t ∷ y) r.is; front_are = (h.0, r.front_are); back_are = r.back_are }

nothing_left : (ts : List Lexeme) → SortsAre ts [] → ts ≡ []
nothing_left [] h = refl
nothing_left (t ∷ ts) h = absurd h

-- ---- names
abbrev pub variable_sorts : List VarId → List Sort
variable_sorts vs = flat_map (λ v. Variable v ∷ []) vs

abbrev pub equation_sorts : List EquId → List Sort
equation_sorts es = flat_map (λ e. Equation e ∷ []) es

abbrev pub pair_sorts : List (EquId × VarId) → List Sort
pair_sorts ps = flat_map (λ p. Equation p.0 ∷ Variable p.1 ∷ []) ps

variables_cons : {ts : List Lexeme} {vs : List VarId} (t : Lexeme) (v : VarId) → t.sort ≡ Variable v → AreVariables ts vs → AreVariables (t ∷ ts) (v ∷ vs)
variables_cons t v e no_variables = one_variable_more [] [] t v no_variables e
variables_cons t v e (one_variable_more ts vs u w h q) = one_variable_more (t ∷ ts) (v ∷ vs) u w (variables_cons t v e h) q

equations_cons : {ts : List Lexeme} {es : List EquId} (t : Lexeme) (e : EquId) → t.sort ≡ Equation e → AreEquations ts es → AreEquations (t ∷ ts) (e ∷ es)
equations_cons t e p no_equations = one_equation_more [] [] t e no_equations p
equations_cons t e p (one_equation_more ts es u f h q) = one_equation_more (t ∷ ts) (e ∷ es) u f (equations_cons t e p h) q

pairs_cons : {ts : List Lexeme} {ps : List (EquId × VarId)} (t u : Lexeme) (p : EquId × VarId) → t.sort ≡ Equation p.0 → u.sort ≡ Variable p.1 → ArePairs ts ps → ArePairs (t ∷ u ∷ ts) (p ∷ ps)
pairs_cons t u p e f no_pairs = one_pair_more [] [] t u p.0 p.1 no_pairs e f
pairs_cons t u p e f (one_pair_more ts ps x y d w h q r) = one_pair_more (t ∷ u ∷ ts) (p ∷ ps) x y d w (pairs_cons t u p e f h) q r

variables_are : (ts : List Lexeme) (vs : List VarId) → SortsAre ts (variable_sorts vs) → AreVariables ts vs
variables_are [] [] h = no_variables
variables_are (t ∷ ts) [] h = absurd h
variables_are [] (v ∷ vs) h = absurd h
variables_are (t ∷ ts) (v ∷ vs) h = variables_cons t v h.0 (variables_are ts vs h.1)

equations_are : (ts : List Lexeme) (es : List EquId) → SortsAre ts (equation_sorts es) → AreEquations ts es
equations_are [] [] h = no_equations
equations_are (t ∷ ts) [] h = absurd h
equations_are [] (e ∷ es) h = absurd h
equations_are (t ∷ ts) (e ∷ es) h = equations_cons t e h.0 (equations_are ts es h.1)

pairs_are : (ts : List Lexeme) (ps : List (EquId × VarId)) → SortsAre ts (pair_sorts ps) → ArePairs ts ps
pairs_are [] [] h = no_pairs
pairs_are (t ∷ ts) [] h = absurd h
pairs_are [] (p ∷ ps) h = absurd h
pairs_are (t ∷ []) (p ∷ ps) h = absurd h.1
pairs_are (t ∷ u ∷ ts) (p ∷ ps) h = pairs_cons t u p h.0 h.1.0 (pairs_are ts ps h.1.1)

-- ---- items
abbrev pub block_sorts : Block → List Sort
block_sorts (AgentBlock sense o vs es) = Agent sense ∷ (Variable o ∷ variable_sorts vs ++ equation_sorts es)
block_sorts (ViBlock vs ps es) = Vi ∷ (variable_sorts vs ++ pair_sorts ps ++ equation_sorts es)

-- a variational inequality has at least one name
abbrev pub IsFull : Block → Type 0
IsFull (AgentBlock sense o vs es) = Unit {0}
IsFull (ViBlock vs ps es) = 0 < length vs + length ps + length es

block_item : (ts : List Lexeme) (b : Block) → IsFull b → SortsAre ts (block_sorts b) → IsItem ts (block b)
block_item [] (AgentBlock sense o vs es) f h = absurd h
block_item (k ∷ []) (AgentBlock sense o vs es) f h = absurd h.1
block_item (k ∷ t ∷ ts) (AgentBlock sense o vs es) f h =
    let r = split ts (variable_sorts vs) (equation_sorts es) h.1.1 in
    subst (λ x. IsItem (k ∷ t ∷ x) (block (AgentBlock sense o vs es))) (sym r.is)
    (is_agent k t sense o r.front r.back vs es h.0 h.1.0 (variables_are r.front vs r.front_are) (equations_are r.back es r.back_are))
block_item [] (ViBlock vs ps es) f h = absurd h
block_item (k ∷ ts) (ViBlock vs ps es) f h =
    let r = split ts (variable_sorts vs ++ pair_sorts ps) (equation_sorts es) h.1 in
    let s = split r.front (variable_sorts vs) (pair_sorts ps) r.front_are in
    subst (λ x. IsItem (k ∷ x) (block (ViBlock vs ps es))) (sym (r.is ∙ ap (λ x. x ++ r.back) s.is))
    (is_vi k s.front s.back r.back vs ps es h.0 (variables_are s.front vs s.front_are) (pairs_are s.back ps s.back_are) (equations_are r.back es r.back_are) f)

abbrev pub tie_sorts : Sort → VarId × EquId → List Sort
tie_sorts s d = s ∷ Variable d.0 ∷ Equation d.1 ∷ []

abbrev pub visol_sorts : EquId → List Sort
visol_sorts e = Visol ∷ Equation e ∷ []

one_tie : (t u : Lexeme) (d : VarId × EquId) → t.sort ≡ Variable d.0 → u.sort ≡ Equation d.1 → AreTies (t ∷ u ∷ []) (d ∷ [])
one_tie t u d p q = one_tie_more [] [] t u d.0 d.1 no_ties p q

dual_item : (ts : List Lexeme) (d : VarId × EquId) → SortsAre ts (tie_sorts Dualvar d) → IsItem ts (duals (d ∷ []))
dual_item [] d h = absurd h
dual_item (k ∷ []) d h = absurd h.1
dual_item (k ∷ t ∷ []) d h = absurd h.1.1
dual_item (k ∷ t ∷ u ∷ []) d h = are_duals k (t ∷ u ∷ []) (d ∷ []) h.0 (one_tie t u d h.1.0 h.1.1.0) (omega arith)
dual_item (k ∷ t ∷ u ∷ w ∷ ts) d h = absurd h.1.1.1

implicit_item : (ts : List Lexeme) (d : VarId × EquId) → SortsAre ts (tie_sorts Implicit d) → IsItem ts (implicits (d ∷ []))
implicit_item [] d h = absurd h
implicit_item (k ∷ []) d h = absurd h.1
implicit_item (k ∷ t ∷ []) d h = absurd h.1.1
implicit_item (k ∷ t ∷ u ∷ []) d h = are_implicits k (t ∷ u ∷ []) (d ∷ []) h.0 (one_tie t u d h.1.0 h.1.1.0) (omega arith)
implicit_item (k ∷ t ∷ u ∷ w ∷ ts) d h = absurd h.1.1.1

visol_item : (ts : List Lexeme) (e : EquId) → SortsAre ts (visol_sorts e) → IsItem ts (visols (e ∷ []))
visol_item [] e h = absurd h
visol_item (k ∷ []) e h = absurd h.1
visol_item (k ∷ t ∷ []) e h = are_visols k (t ∷ []) (e ∷ []) h.0 (one_equation_more [] [] t e no_equations h.1.0) (omega arith)
visol_item (k ∷ t ∷ u ∷ ts) e h = absurd h.1.1

-- ---- items one after another
abbrev pub EachFull : List Block → Type 0
EachFull [] = Unit {0}
EachFull (b ∷ bs) = IsFull b × EachFull bs

abbrev more_blocks : Annot → List Block → Annot
more_blocks a bs = record { bilevel = a.bilevel; leader = a.leader; blocks = a.blocks ++ bs; duals = a.duals; visols = a.visols; implicits = a.implicits }

abbrev more_duals : Annot → List (VarId × EquId) → Annot
more_duals a ds = record { bilevel = a.bilevel; leader = a.leader; blocks = a.blocks; duals = a.duals ++ ds; visols = a.visols; implicits = a.implicits }

abbrev more_visols : Annot → List EquId → Annot
more_visols a es = record { bilevel = a.bilevel; leader = a.leader; blocks = a.blocks; duals = a.duals; visols = a.visols ++ es; implicits = a.implicits }

abbrev more_implicits : Annot → List (VarId × EquId) → Annot
more_implicits a ds = record { bilevel = a.bilevel; leader = a.leader; blocks = a.blocks; duals = a.duals; visols = a.visols; implicits = a.implicits ++ ds }

module _ {X : Type 0} (sorts : X → List Sort) (Full : List X → Type 0) (one : Annot → X → Annot) (all : Annot → List X → Annot) (none : (a : Annot) → all a [] ≡ a) (step : (a : Annot) (x : X) (xs : List X) → all (one a x) xs ≡ all a (x ∷ xs)) (full : (x : X) (xs : List X) → Full (x ∷ xs) → Full xs) (item : (a : Annot) (ts us : List Lexeme) (x : X) (xs : List X) → Full (x ∷ xs) → HasItems ts a → SortsAre us (sorts x) → HasItems (ts ++ us) (one a x)) where
  items_more : (xs : List X) → Full xs → (ts us : List Lexeme) (a : Annot) → HasItems ts a → SortsAre us (flat_map sorts xs) → HasItems (ts ++ us) (all a xs)
  items_more [] f ts us a h k = subst (HasItems (ts ++ us)) (sym (none a)) (subst (λ x. HasItems x a) (sym (ap (λ y. ts ++ y) (nothing_left us k) ∙ append-nil ts)) h)
  items_more (x ∷ xs) f ts us a h k =
      let r = split us (sorts x) (flat_map sorts xs) k in
      subst (λ y. HasItems y (all a (x ∷ xs))) (append_assoc ts r.front r.back ∙ ap (λ y. ts ++ y) (sym r.is))
      (subst (HasItems ((ts ++ r.front) ++ r.back)) (step a x xs) (items_more xs (full x xs f) (ts ++ r.front) r.back (one a x) (item a ts r.front x xs f h r.front_are) r.back_are))

abbrev Any : {X : Type 0} → List X → Type 0
Any xs = Unit {0}

blocks_more : (bs : List Block) → EachFull bs → (ts us : List Lexeme) (a : Annot) → HasItems ts a → SortsAre us (flat_map block_sorts bs) → HasItems (ts ++ us) (more_blocks a bs)
blocks_more = items_more block_sorts EachFull (λ a b. with_item a (block b)) more_blocks
    (λ a. ap (λ x. record { bilevel = a.bilevel; leader = a.leader; blocks = x; duals = a.duals; visols = a.visols; implicits = a.implicits }) (append-nil a.blocks))
    (λ a b bs. ap (λ x. record { bilevel = a.bilevel; leader = a.leader; blocks = x; duals = a.duals; visols = a.visols; implicits = a.implicits }) (append_assoc a.blocks (b ∷ []) bs))
    (λ b bs f. f.1)
    (λ a ts us b bs f h k. one_item_more ts us a (block b) h (block_item us b f.0 k))

duals_more : (ds : List (VarId × EquId)) (ts us : List Lexeme) (a : Annot) → HasItems ts a → SortsAre us (flat_map (tie_sorts Dualvar) ds) → HasItems (ts ++ us) (more_duals a ds)
duals_more ds = items_more (tie_sorts Dualvar) Any (λ a d. with_item a (duals (d ∷ []))) more_duals
    (λ a. ap (λ x. record { bilevel = a.bilevel; leader = a.leader; blocks = a.blocks; duals = x; visols = a.visols; implicits = a.implicits }) (append-nil a.duals))
    (λ a d ds. ap (λ x. record { bilevel = a.bilevel; leader = a.leader; blocks = a.blocks; duals = x; visols = a.visols; implicits = a.implicits }) (append_assoc a.duals (d ∷ []) ds))
    (λ d ds f. tt)
    (λ a ts us d ds f h k. one_item_more ts us a (duals (d ∷ [])) h (dual_item us d k))
    ds tt

visols_more : (es : List EquId) (ts us : List Lexeme) (a : Annot) → HasItems ts a → SortsAre us (flat_map visol_sorts es) → HasItems (ts ++ us) (more_visols a es)
visols_more es = items_more visol_sorts Any (λ a e. with_item a (visols (e ∷ []))) more_visols
    (λ a. ap (λ x. record { bilevel = a.bilevel; leader = a.leader; blocks = a.blocks; duals = a.duals; visols = x; implicits = a.implicits }) (append-nil a.visols))
    (λ a e es. ap (λ x. record { bilevel = a.bilevel; leader = a.leader; blocks = a.blocks; duals = a.duals; visols = x; implicits = a.implicits }) (append_assoc a.visols (e ∷ []) es))
    (λ e es f. tt)
    (λ a ts us e es f h k. one_item_more ts us a (visols (e ∷ [])) h (visol_item us e k))
    es tt

implicits_more : (ds : List (VarId × EquId)) (ts us : List Lexeme) (a : Annot) → HasItems ts a → SortsAre us (flat_map (tie_sorts Implicit) ds) → HasItems (ts ++ us) (more_implicits a ds)
implicits_more ds = items_more (tie_sorts Implicit) Any (λ a d. with_item a (implicits (d ∷ []))) more_implicits
    (λ a. ap (λ x. record { bilevel = a.bilevel; leader = a.leader; blocks = a.blocks; duals = a.duals; visols = a.visols; implicits = x }) (append-nil a.implicits))
    (λ a d ds. ap (λ x. record { bilevel = a.bilevel; leader = a.leader; blocks = a.blocks; duals = a.duals; visols = a.visols; implicits = x }) (append_assoc a.implicits (d ∷ []) ds))
    (λ d ds f. tt)
    (λ a ts us d ds f h k. one_item_more ts us a (implicits (d ∷ [])) h (implicit_item us d k))
    ds tt

-- ---- the whole
abbrev pub head_sorts : Bool → List VarId → List Sort
head_sorts true leader = Bilevel ∷ variable_sorts leader
head_sorts false leader = Equilibrium ∷ []

abbrev pub info_sorts : Annot → List Sort
info_sorts a = head_sorts a.bilevel a.leader ++ flat_map block_sorts a.blocks ++ flat_map (tie_sorts Dualvar) a.duals ++ flat_map visol_sorts a.visols ++ flat_map (tie_sorts Implicit) a.implicits

-- no variable stands behind `equilibrium`
abbrev pub IsHead : Bool → List VarId → Type 0
IsHead true leader = Unit {0}
IsHead false leader = leader ≡ []

head_items : (ts : List Lexeme) (b : Bool) (leader : List VarId) → IsHead b leader → SortsAre ts (head_sorts b leader) → HasItems ts (nothing_yet b leader)
head_items [] true leader f h = absurd h
head_items (t ∷ ts) true leader f h = bilevel t ts leader h.0 (variables_are ts leader h.1)
head_items [] false leader f h = absurd h
head_items (t ∷ []) false leader f h = subst (λ x. HasItems (t ∷ []) (nothing_yet false x)) (sym f) (equilibrium t h.0)
head_items (t ∷ u ∷ ts) false leader f h = absurd h.1

module _ (a : Annot) (f : IsHead a.bilevel a.leader) (g : EachFull a.blocks) where
  abbrev through_blocks : Annot
  through_blocks = more_blocks (nothing_yet a.bilevel a.leader) a.blocks

  blocks_read : (ts : List Lexeme) → SortsAre ts (head_sorts a.bilevel a.leader ++ flat_map block_sorts a.blocks) → HasItems ts through_blocks
  blocks_read ts h =
      let r = split ts (head_sorts a.bilevel a.leader) (flat_map block_sorts a.blocks) h in
      subst (λ x. HasItems x through_blocks) (sym r.is) (blocks_more a.blocks g r.front r.back (nothing_yet a.bilevel a.leader) (head_items r.front a.bilevel a.leader f r.front_are) r.back_are)

  abbrev through_duals : Annot
  through_duals = more_duals through_blocks a.duals

  duals_read : (ts : List Lexeme) → SortsAre ts (head_sorts a.bilevel a.leader ++ flat_map block_sorts a.blocks ++ flat_map (tie_sorts Dualvar) a.duals) → HasItems ts through_duals
  duals_read ts h =
      let r = split ts (head_sorts a.bilevel a.leader ++ flat_map block_sorts a.blocks) (flat_map (tie_sorts Dualvar) a.duals) h in
      subst (λ x. HasItems x through_duals) (sym r.is) (duals_more a.duals r.front r.back through_blocks (blocks_read r.front r.front_are) r.back_are)

  abbrev through_visols : Annot
  through_visols = more_visols through_duals a.visols

  visols_read : (ts : List Lexeme) → SortsAre ts (head_sorts a.bilevel a.leader ++ flat_map block_sorts a.blocks ++ flat_map (tie_sorts Dualvar) a.duals ++ flat_map visol_sorts a.visols) → HasItems ts through_visols
  visols_read ts h =
      let r = split ts (head_sorts a.bilevel a.leader ++ flat_map block_sorts a.blocks ++ flat_map (tie_sorts Dualvar) a.duals) (flat_map visol_sorts a.visols) h in
      subst (λ x. HasItems x through_visols) (sym r.is) (visols_more a.visols r.front r.back through_duals (duals_read r.front r.front_are) r.back_are)

  pub info_items : (ts : List Lexeme) → SortsAre ts (info_sorts a) → HasItems ts a
  info_items ts h =
      let r = split ts (head_sorts a.bilevel a.leader ++ flat_map block_sorts a.blocks ++ flat_map (tie_sorts Dualvar) a.duals ++ flat_map visol_sorts a.visols) (flat_map (tie_sorts Implicit) a.implicits) h in
      subst (λ x. HasItems x a) (sym r.is) (implicits_more a.implicits r.front r.back through_visols (visols_read r.front r.front_are) r.back_are)
