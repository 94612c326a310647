-- What moves between a file and its game: coordinates, defined objectives and ranges.
use Rattle.std.proofs.Common.{◌≡◌, ◌⊎◌, inl, inr, ℕ, ◌<◌, ◌≤◌, ℤ, pos, ◌*ℤ◌, ◌<ℤ◌, Bool, true, false, not, nat_eq, List, [], ◌∷◌, map, length, Option, Some, None, arith, refl, sym, ap, subst, ◌∙◌}
use Rattle.std.specs.Prelude.{slice_get, ◌&&◌}
use Rattle.std.specs.List.{list_any}
use Rattle.std.proofs.lemmas.Bool.{eq-eqb, eqb-true, and_parts, or_cases, or_left, or_right, false≢true}
use Rattle.std.proofs.lemmas.List.{get_or-map, get_or_past, length-map}
use Rattle.std.proofs.lemmas.Option.{slice_get_within, get_or_from_slice_get}
use Rattle.std.proofs.lemmas.List.Elements.{All-get_or}
use Rattle.emp_algebra.specs.Vector.{cell, scale}
use Rattle.emp_algebra.proofs.Ring.{var, ◌⊗◌, by_ring}
use Rattle.emp_algebra.proofs.Vectors.{cell-scale}
use Rattle.emp_systems.specs.Same.{AreSame}
use Rattle.emp_num.specs.Ratio.{Ratio}
use Rattle.emp_num.specs.Point.{Point}
use Rattle.emp_ast.specs.declared.tree.EquId.{EquId}
use Rattle.emp_ast.specs.declared.model.End.{End}
use Rattle.emp_ast.specs.declared.model.End.TheVariants.{Open, At}
use Rattle.emp_ast.specs.declared.model.Variable.{Variable}
use Rattle.emp_ast.specs.declared.model.Sense.{Sense}
use Rattle.emp_ast.specs.declared.model.Model.{Model}
use Rattle.emp_ast.specs.declared.annot.Block.{Block}
use Rattle.emp_ast.specs.declared.annot.Annot.{Annot}
use Rattle.emp_ast.specs.Meets.{IsAbove, IsBelow}
use Rattle.emp_ast.specs.Parties.{Party, block, names_equation, equations, objective, is_open, has_no_bound, is_dual, is_implicit_equation, ties, can_define, has_alone, holders, defines_by, defines, is_defined_by, is_defined_of, is_defined}
use Rattle.emp_ast.specs.Occurrence.{occurrences}
use Rattle.emp_game.specs.Game.{Player, Ranges, range_at}
use Rattle.emp_problem.specs.Left.{left, place, range_of}
use Rattle.emp_problem.specs.GameOf.{IsPlayerOf}
use Rattle.emp_problem.specs.Class.{BlockFits, IsClassFile}
use Rattle.emp_meaning.specs.Laws.{left_nums}
use Rattle.emp_meaning.specs.Ties.{left_at, Places, Owners, Values}

-- player pl of a game with these ranges is block k of the file, and its numbers are those of the file times n
pub record IsTied (n : ℤ) (m : Model) (a : Annot) (ranges : Ranges) (k : ℕ) (b : Block) (pl : Player) : Type 0 where
  pub positive : pos 0 <ℤ n
  pub class : IsClassFile m a
  pub places : Places m a
  pub owners : Owners m a k pl
  pub ends : ranges ≡ map (range_of m) (left m a)
  pub values : Values n m a
  pub there : slice_get a.blocks k ≡ Some b
  pub player : IsPlayerOf n m a k b pl

-- the numbers that the block names are those of the model
pub block_fits : (m : Model) (a : Annot) (k : ℕ) (b : Block) → IsClassFile m a → slice_get a.blocks k ≡ Some b → BlockFits (length m.variables) (length m.equations) b
block_fits m a k b class at =
    subst (λ x. BlockFits (length m.variables) (length m.equations) x) (get_or_from_slice_get a.blocks k b b at) (All-get_or (BlockFits (length m.variables) (length m.equations)) a.blocks k b (slice_get_within a.blocks k b at) class.fits.blocks)

-- ---- coordinates
pub left_count : (m : Model) (a : Annot) (p : Point) → length (left_nums m a p) ≡ length (left m a)
left_count m a p = length-map (left m a) (λ v. cell p.nums v)

pub left_cell : (m : Model) (a : Annot) (p : Point) (i : ℕ) → i < length (left m a) → cell (left_nums m a p) i ≡ cell p.nums (left_at m a i)
left_cell m a p i h = get_or-map (λ v. cell p.nums v) (left m a) i 0 (pos 0) h

pub left_past : (m : Model) (a : Annot) (p : Point) (i : ℕ) → length (left m a) ≤ i → cell (left_nums m a p) i ≡ pos 0
left_past m a p i h = get_or_past (left_nums m a p) i (pos 0) (let l = left_count m a p in omega arith)

pub placed_cell : (m : Model) (a : Annot) (p : Point) (v : ℕ) → Places m a → v < length m.variables → is_defined m a v ≡ false → cell (left_nums m a p) (place m a v) ≡ cell p.nums v
placed_cell m a p v places within free = let at = places.placed v within free in left_cell m a p (place m a v) at.0 ∙ ap (λ u. cell p.nums u) at.1

-- larger numbers in the same proportion
pub scaled_same : (t e : ℤ) (ys : List ℤ) (d : ℤ) (zs : List ℤ) → d ≡ t *ℤ e → zs ≡ scale t ys → AreSame e ys d zs
scaled_same t e ys d zs is are i =
    ap (λ z. cell ys i *ℤ z) is
    ∙ (by_ring (cell ys i ∷ t ∷ e ∷ []) (var 0 ⊗ (var 1 ⊗ var 2)) (var 1 ⊗ var 0 ⊗ var 2) refl
    ∙ ap (λ z. z *ℤ e) (sym (ap (λ ws. cell ws i) are ∙ cell-scale t ys i)))

-- ---- ranges
pub range_count : (m : Model) (a : Annot) (ranges : Ranges) → ranges ≡ map (range_of m) (left m a) → length ranges ≡ length (left m a)
range_count m a ranges is = ap length is ∙ length-map (left m a) (range_of m)

pub range_is : (m : Model) (a : Annot) (ranges : Ranges) (i : ℕ) → ranges ≡ map (range_of m) (left m a) → i < length (left m a) → range_at ranges i ≡ range_of m (left_at m a i)
range_is m a ranges i is h = ap (λ rs. range_at rs i) is ∙ get_or-map (range_of m) (left m a) i 0 (Open, Open) h

-- ---- objectives that are defined
pub named_passes : (test : ℕ → Bool) (es : List EquId) (e : ℕ) → names_equation es e ≡ true → test e ≡ true → list_any (λ x. test x.at) es ≡ true
named_passes test [] e h t = absurd (false≢true h)
named_passes test (x ∷ es) e h t = go (or_cases (nat_eq x.at e) (names_equation es e) h) (named_passes test es e)
  where
    go : (nat_eq x.at e ≡ true) ⊎ (names_equation es e ≡ true) → (names_equation es e ≡ true → test e ≡ true → list_any (λ y. test y.at) es ≡ true) → list_any (λ y. test y.at) (x ∷ es) ≡ true
    go (inl s) rest = or_left (test x.at) (list_any (λ y. test y.at) es) (ap test (eqb-true x.at e s) ∙ t)
    go (inr s) rest = or_right (test x.at) (list_any (λ y. test y.at) es) (rest s t)

pub some_passes : (test : ℕ → Bool) (es : List EquId) → list_any (λ x. test x.at) es ≡ true → (e : ℕ) × (test e ≡ true)
some_passes test [] h = absurd (false≢true h)
some_passes test (x ∷ es) h = go (or_cases (test x.at) (list_any (λ y. test y.at) es) h) (some_passes test es)
  where
    go : (test x.at ≡ true) ⊎ (list_any (λ y. test y.at) es ≡ true) → (list_any (λ y. test y.at) es ≡ true → (e : ℕ) × (test e ≡ true)) → (e : ℕ) × (test e ≡ true)
    go (inl s) rest = (x.at, s)
    go (inr s) rest = rest s

-- what an equation of a block defines is a defined objective
pub defines_own : (m : Model) (a : Annot) (k : ℕ) (w : Sense × ℕ) (e : ℕ) → objective m a (block k) ≡ Some w → defines m a (block k) e ≡ true → is_defined_of m a (block k) w.1 ≡ true
defines_own m a k w e is h =
    let by : (can_define m a e w.1 && has_alone m a (block k) e) ≡ true = subst (λ o. defines_by m a (block k) e o ≡ true) is h in
    let alone = (and_parts (can_define m a e w.1) (has_alone m a (block k) e) by).1 in
    let named = (and_parts (names_equation (equations m a (block k)) e) (nat_eq (holders a e) 1) alone).0 in
    let some = named_passes (λ e. defines m a (block k) e) (equations m a (block k)) e named h in
    subst (λ o. is_defined_by m a (block k) w.1 o ≡ true) (sym is) (rw (eq-eqb w.1 w.1 refl) some)

open_above : (end : End) (y : Ratio) → is_open end ≡ true → IsAbove y end
open_above Open y h = tt
open_above (At f) y h = absurd (false≢true h)

open_below : (end : End) (y : Ratio) → is_open end ≡ true → IsBelow y end
open_below Open y h = tt
open_below (At f) y h = absurd (false≢true h)

-- a defined objective has no bound
pub defined_unbound : (m : Model) (a : Annot) (k : Party) (v : ℕ) (x : Variable) (y : Ratio) → is_defined_of m a k v ≡ true → slice_get m.variables v ≡ Some x → IsAbove y x.low × IsBelow y x.high
defined_unbound m a k v x y h at = go (objective m a k) refl h
  where
    go : (o : Option (Sense × ℕ)) → objective m a k ≡ o → is_defined_by m a k v o ≡ true → IsAbove y x.low × IsBelow y x.high
    go (Some w) is h =
        let parts = and_parts (nat_eq w.1 v) (list_any (λ e. defines m a k e.at) (equations m a k)) h in
        let some = some_passes (λ e. defines m a k e) (equations m a k) parts.1 in
        let by : (can_define m a some.0 w.1 && has_alone m a k some.0) ≡ true = subst (λ o. defines_by m a k some.0 o ≡ true) is some.1 in
        let can = (and_parts (can_define m a some.0 w.1) (has_alone m a k some.0) by).0 in
        let free = has_no_bound (slice_get m.variables w.1) in
        let b1 = free && not (is_dual a w.1) in
        let b2 = nat_eq (occurrences w.1 m.equations) 1 in
        let b3 = ties w.1 (slice_get m.equations some.0) in
        let first = (and_parts (b1 && b2 && b3) (not (is_implicit_equation a some.0)) can).0 in
        let second = (and_parts (b1 && b2) b3 first).0 in
        let third = (and_parts b1 b2 second).0 in
        let bound : has_no_bound (slice_get m.variables w.1) ≡ true = (and_parts free (not (is_dual a w.1)) third).0 in
        let here : has_no_bound (Some x) ≡ true = sym (ap has_no_bound (ap (λ u. slice_get m.variables u) (eqb-true w.1 v parts.0) ∙ at)) ∙ bound in
        let ends = and_parts (is_open x.low) (is_open x.high) here in
        (open_above x.low y ends.0, open_below x.high y ends.1)
    go None is h = absurd (false≢true h)
