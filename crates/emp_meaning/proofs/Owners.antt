-- Which coordinates a player owns, and their ranges.
use Rattle.std.proofs.Common.{◌≡◌, ◌⊎◌, inl, inr, ℕ, ◌<◌, ℤ, Bool, true, false, not, nat_eq, List, [], ◌∷◌, All, map, length, Some, refl, sym, ap, subst, ◌∙◌}
use Rattle.std.specs.Prelude.{slice_get, filter}
use Rattle.std.specs.List.{list_any}
use Rattle.std.proofs.lemmas.Bool.{eqb-true, eq-eqb, not-true, not_from_false, or_cases, false≢true, false_from_ne_true}
use Rattle.std.proofs.lemmas.Option.{slice_get_within}
use Rattle.std.proofs.lemmas.List.Elements.{All-head, All-tail}
use Rattle.std.proofs.lemmas.List.Folds.{list_any-append}
use Rattle.emp_ast.specs.declared.tree.VarId.{VarId}
use Rattle.emp_ast.specs.declared.tree.EquId.{EquId}
use Rattle.emp_ast.specs.declared.model.Model.{Model}
use Rattle.emp_ast.specs.declared.annot.Block.{Block}
use Rattle.emp_ast.specs.declared.annot.Block.TheVariants.{Agent, Vi}
use Rattle.emp_ast.specs.declared.annot.Annot.{Annot}
use Rattle.emp_ast.specs.Parties.{block, names_variable, block_variables, block_owns, owns, is_defined_of, is_defined}
use Rattle.emp_ast.specs.Convex.{counted_by}
use Rattle.emp_owner.proofs.Lists.{any_map}
use Rattle.emp_game.specs.Game.{Player, names}
use Rattle.emp_game.specs.Game as TheGame
use Rattle.emp_problem.specs.Left.{left, place}
use Rattle.emp_problem.specs.GameOf.{IsPlayerOf}
use Rattle.emp_problem.specs.Class.{VariablesFit, BlockFits, IsClassFile}
use Rattle.emp_meaning.specs.Ties.{left_at, Places, Owners}
use Rattle.emp_meaning.proofs.TieLists.{same_truth, any_at, any_source, map_source, map_named, filter_source, filter_has}
use Rattle.emp_meaning.proofs.Places.{party_defines, places}
use Rattle.emp_meaning.proofs.Move.{block_fits}

-- ---- the variables of a block are the model's
variables_fit : (n : ℕ) (vs : List VarId) (v : ℕ) → VariablesFit n vs → names_variable vs v ≡ true → v < n
variables_fit n [] v fit h = absurd (false≢true h)
variables_fit n (x ∷ xs) v fit h = go (or_cases (nat_eq x.at v) (names_variable xs v) h) (λ r. variables_fit n xs v (All-tail (λ w. w.at < n) x xs fit) r)
  where
    go : (nat_eq x.at v ≡ true) ⊎ (names_variable xs v ≡ true) → (names_variable xs v ≡ true → v < n) → v < n
    go (inl e) rest = subst (λ i. i < n) (eqb-true x.at v e) (All-head (λ w. w.at < n) x xs fit)
    go (inr e) rest = rest e

pairs_fit : (n e : ℕ) (qs : List (EquId × VarId)) (v : ℕ) → All (λ q. (q.0.at < e) × (q.1.at < n)) qs → list_any (λ q. nat_eq q.1.at v) qs ≡ true → v < n
pairs_fit n e [] v fit h = absurd (false≢true h)
pairs_fit n e (x ∷ xs) v fit h = go (or_cases (nat_eq x.1.at v) (list_any (λ q. nat_eq q.1.at v) xs) h) (λ r. pairs_fit n e xs v (All-tail (λ q. (q.0.at < e) × (q.1.at < n)) x xs fit) r)
  where
    go : (nat_eq x.1.at v ≡ true) ⊎ (list_any (λ q. nat_eq q.1.at v) xs ≡ true) → (list_any (λ q. nat_eq q.1.at v) xs ≡ true → v < n) → v < n
    go (inl s) rest = subst (λ i. i < n) (eqb-true x.1.at v s) (All-head (λ q. (q.0.at < e) × (q.1.at < n)) x xs fit).1
    go (inr s) rest = rest s

pub block_fit : (n e : ℕ) (b : Block) (v : ℕ) → BlockFits n e b → names_variable (block_variables b) v ≡ true → v < n
block_fit n e (Agent sense target vars equs) v fit h = go (or_cases (nat_eq target.at v) (names_variable vars v) h)
  where
    go : (nat_eq target.at v ≡ true) ⊎ (names_variable vars v ≡ true) → v < n
    go (inl s) = subst (λ i. i < n) (eqb-true target.at v s) fit.0
    go (inr s) = variables_fit n vars v fit.1 s
block_fit n e (Vi zeros pairs equs) v fit h = go (or_cases (names_variable zeros v) (names_variable (map (λ q. q.1) pairs) v) (sym (list_any-append (λ x. nat_eq x.at v) zeros (map (λ q. q.1) pairs)) ∙ h))
  where
    go : (names_variable zeros v ≡ true) ⊎ (names_variable (map (λ q. q.1) pairs) v ≡ true) → v < n
    go (inl s) = variables_fit n zeros v fit.0 s
    go (inr s) = pairs_fit n e pairs v fit.1 (sym (any_map (λ x. nat_eq x.at v) (λ (q : EquId × VarId). q.1) pairs) ∙ s)

-- ---- what a player owns
module _ (n : ℤ) (m : Model) (a : Annot) (class : IsClassFile m a) (k : ℕ) (b : Block) (pl : Player) (at : slice_get a.blocks k ≡ Some b) (player : IsPlayerOf n m a k b pl) where
  there : Places m a
  there = places m a class

  abbrev keeps : VarId → Bool
  keeps v = not (is_defined_of m a (block k) v.at)

  own_is : pl.own ≡ map (λ v. place m a v.at) (filter keeps (block_variables b))
  own_is = player.own ∙ ap (λ o. map (λ v. place m a v.at) (counted_by m a k o)) at

  owned_by : (v : ℕ) → names_variable (block_variables b) v ≡ owns m a (block k) v
  owned_by v = ap (λ o. block_owns o v) (sym at)

  -- the variable of an own coordinate
  record OwnLeft (i : ℕ) : Type 0 where
    pub variable : ℕ
    pub owned : names_variable (block_variables b) variable ≡ true
    pub within : variable < length m.variables
    pub free : is_defined m a variable ≡ false
    pub is : place m a variable ≡ i

  own_left : (i : ℕ) → TheGame.owns pl i ≡ true → OwnLeft i
  own_left i h =
      let s = map_source (λ (v : VarId). place m a v.at) (filter keeps (block_variables b)) i (sym (ap (λ js. names js i) own_is) ∙ h) in
      let f = filter_source keeps (block_variables b) s.index s.entry s.at in
      let o : names_variable (block_variables b) s.entry.at ≡ true = any_at (λ (x : VarId). nat_eq x.at s.entry.at) (block_variables b) f.index s.entry f.at (eq-eqb s.entry.at s.entry.at refl) in
      let w : s.entry.at < length m.variables = block_fit (length m.variables) (length m.equations) b s.entry.at (block_fits m a k b class at) o in
      record {
        variable = s.entry.at;
        owned = o;
        within = w;
        free = false_from_ne_true (is_defined m a s.entry.at) (λ d. false≢true (sym (not-true (is_defined_of m a (block k) s.entry.at) f.passes) ∙ there.own (block k) s.entry.at (slice_get_within a.blocks k b at) w (sym (owned_by s.entry.at) ∙ o) d));
        is = s.is;
      }

  own_there : (i : ℕ) → i < length (left m a) → names_variable (block_variables b) (left_at m a i) ≡ true → TheGame.owns pl i ≡ true
  own_there i l h =
      let u = left_at m a i in
      let t = there.at i l in
      let s = any_source (λ (x : VarId). nat_eq x.at u) (block_variables b) h in
      let same : s.entry.at ≡ u = eqb-true s.entry.at u s.passes in
      let kept : keeps s.entry ≡ true = not_from_false (is_defined_of m a (block k) s.entry.at) (false_from_ne_true (is_defined_of m a (block k) s.entry.at) (λ d. false≢true (sym t.1 ∙ party_defines m a (block k) u (slice_get_within a.blocks k b at) (subst (λ v. is_defined_of m a (block k) v ≡ true) same d)))) in
      let f = filter_has keeps (block_variables b) s.index s.entry s.at kept in
      ap (λ js. names js i) own_is ∙ (ap (names (map (λ v. place m a v.at) (filter keeps (block_variables b)))) (sym (ap (place m a) same ∙ t.2)) ∙ map_named (λ (v : VarId). place m a v.at) (filter keeps (block_variables b)) f.index s.entry f.at)

  pub player_owners : Owners m a k pl
  player_owners = record { owns = owned; below = below }
    where
      below : (i : ℕ) → TheGame.owns pl i ≡ true → i < length (left m a)
      below i h = let o = own_left i h in subst (λ j. j < length (left m a)) o.is (there.placed o.variable o.within o.free).0

      owned : (i : ℕ) → i < length (left m a) → TheGame.owns pl i ≡ owns m a (block k) (left_at m a i)
      owned i l = same_truth (TheGame.owns pl i) (names_variable (block_variables b) (left_at m a i)) down (own_there i l) ∙ owned_by (left_at m a i)
        where
          down : TheGame.owns pl i ≡ true → names_variable (block_variables b) (left_at m a i) ≡ true
          down h =
              let o = own_left i h in
              let same : left_at m a i ≡ o.variable = ap (left_at m a) (sym o.is) ∙ (there.placed o.variable o.within o.free).1 in
              ap (names_variable (block_variables b)) same ∙ o.owned
