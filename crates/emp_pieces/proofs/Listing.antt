-- The walk to its end, piece by piece.
use Rattle.std.proofs.Common.{◌≡◌, ℕ, zero, suc, ◌-◌, ◌<◌, ◌≤◌, List, [], ◌∷◌, ◌++◌, map, Option, Some, None, Err, arith, refl, sym, ap, subst, ◌∙◌}
use Rattle.emp_rows.specs.declared.system.RowSystem.{RowSystem}
use Rattle.emp_dict.specs.Dictionary.{Dictionary}
use Rattle.emp_step.specs.declared.outcome.Outcome.{Outcome}
use Rattle.emp_step.specs.declared.outcome.Outcome.TheVariants.{Held, Empty, Best, Ray}
use Rattle.emp_step.specs.Steps.{End, ended, too_wide, spent}
use Rattle.std.specs.List.{AllZip, AllByRecursion as ByRecursion}
use Rattle.std.proofs.lemmas.List.Elements.{All-from_recursion}
use Rattle.emp_search.specs.Search.{asked, first_pair}
use Rattle.emp_walk.specs.declared.fault.WalkFault.{WalkFault}
use Rattle.emp_walk.specs.declared.fault.WalkFault.TheVariants.{Wide, Spent, NoMemory}
use Rattle.emp_walk.proofs.Fuel.{asked_left}
use Rattle.emp_faces.specs.Pieces.{Waiting, Place, Coming, piece, over, wide_at, out_of_units, is_open, split_at, by_pair, by_outcome, by_end, opened, turned, next_from, next_of, Listed, listed, stopped, gathered, pieces_from, pieces_of}
use Rattle.emp_faces.specs.Pieces.{Piece as Face}
use Rattle.emp_faces.specs.Shown.{OnFace, AreFaces, AreAll, PiecesShow, paths_of}
use Rattle.emp_faces.specs.Shown.{AllStand as FacesStand}
use Rattle.emp_faces.proofs.Showing.{all_pieces_show}
use Rattle.emp_pieces.specs.declared.list.PieceList.{PieceList}
use Rattle.emp_pieces.specs.declared.walk.Piece.{Piece}
use Rattle.emp_pieces.specs.declared.walk.Walk.{Walk}
use Rattle.emp_pieces.specs.Walks.{place_of, WalkFits, IsFirst, FaultIs, Came}
use Rattle.emp_pieces.specs.Lists.{IsReadOf, IsList, ListGives, StandsOn, path_of, ListShows}

-- ---- a piece leaves fewer units
abbrev Lower : ℕ → Coming → Type 0
Lower n (piece path d q) = q.left < n
Lower n (over q) = Unit {0}
Lower n (wide_at k p) = Unit {0}
Lower n out_of_units = Unit {0}

lower_more : (m n : ℕ) (c : Coming) → m ≤ n → Lower m c → Lower n c
lower_more m n (piece path d q) b h = omega arith
lower_more m n (over q) b h = tt
lower_more m n (wide_at k p) b h = tt
lower_more m n out_of_units b h = tt

module _ (rest : Place → Coming) (lower : (q : Place) → Lower q.left (rest q)) (s : RowSystem) (limit : ℕ) where
  pair_lower : (path : List ℕ) (d : Dictionary) (p : Place) (n : ℕ) → p.left < n → (o : Option ℕ) → Lower n (by_pair rest s path d p o)
  pair_lower path d p n b None = b
  pair_lower path d p n b (Some k) = lower_more p.left n (rest (split_at s path d k p)) (omega arith) (lower (split_at s path d k p))

  outcome_lower : (path : List ℕ) (d : Dictionary) (p : Place) (n : ℕ) → p.left < n → (o : Outcome) → Lower n (by_outcome rest s path d p o)
  outcome_lower path d p n b Held = pair_lower path d p n b (first_pair (is_open d) 1 s.pairs)
  outcome_lower path d p n b (Empty r) = lower_more p.left n (rest p) (omega arith) (lower p)
  outcome_lower path d p n b (Best r) = lower_more p.left n (rest p) (omega arith) (lower p)
  outcome_lower path d p n b (Ray j up) = lower_more p.left n (rest p) (omega arith) (lower p)

  opened_lower : (w : Waiting) (others : List Waiting) (nodes left : ℕ) → Lower left (opened rest s limit w others nodes left)
  opened_lower w others nodes zero = tt
  opened_lower w others nodes (suc left) = go (asked w.asks left w.dictionary).end
    where
      go : (e : End) → Lower (suc left) (by_end rest s limit w.path others (suc nodes) (asked w.asks left w.dictionary) e)
      go (ended o) =
          let k : (asked w.asks left w.dictionary).left ≤ left = asked_left w.asks left w.dictionary in
          outcome_lower w.path (asked w.asks left w.dictionary).dictionary (record { waiting = others; left = (asked w.asks left w.dictionary).left; nodes = suc nodes }) (suc left) (omega arith) o
      go too_wide = tt
      go spent = tt

  turned_lower : (p : Place) (ws : List Waiting) → Lower p.left (turned rest s limit p ws)
  turned_lower p [] = tt
  turned_lower p (w ∷ others) = opened_lower w others p.nodes p.left

next_lower : (s : RowSystem) (limit most : ℕ) (p : Place) → Lower p.left (next_from s limit most p)
next_lower s limit zero p = turned_lower (λ q. out_of_units) (λ q. tt) s limit p p.waiting
next_lower s limit (suc most) p = turned_lower (next_from s limit most) (λ q. next_lower s limit most q) s limit p p.waiting

-- ---- how many pieces may come does not matter where that is at least the units left
gathered_same : (n : ℕ) (f g : List Face → Place → Listed) → ((fs : List Face) (q : Place) → q.left < n → f fs q ≡ g fs q) → (found : List Face) (c : Coming) → Lower n c → gathered f found c ≡ gathered g found c
gathered_same n f g h found (piece path d q) b = h (found ++ record { path = path; dictionary = d } ∷ []) q b
gathered_same n f g h found (over q) b = refl
gathered_same n f g h found (wide_at k p) b = refl
gathered_same n f g h found out_of_units b = refl

many : (s : RowSystem) (limit m n : ℕ) (found : List Face) (p : Place) → p.left ≤ m → p.left ≤ n → pieces_from s limit m found p ≡ pieces_from s limit n found p
many s limit zero zero found p a b = refl
many s limit zero (suc n) found p a b = gathered_same p.left (λ fs q. stopped) (pieces_from s limit n) (λ fs q h. absurd (omega arith)) found (next_of s limit p) (next_lower s limit p.left p)
many s limit (suc m) zero found p a b = gathered_same p.left (pieces_from s limit m) (λ fs q. stopped) (λ fs q h. absurd (omega arith)) found (next_of s limit p) (next_lower s limit p.left p)
many s limit (suc m) (suc n) found p a b = gathered_same p.left (pieces_from s limit m) (pieces_from s limit n) (λ fs q h. many s limit m n fs q (omega arith) (omega arith)) found (next_of s limit p) (next_lower s limit p.left p)

abbrev onward : RowSystem → ℕ → List Face → Place → Listed
onward s limit found p = pieces_from s limit p.left found p

onward_turns : (s : RowSystem) (limit : ℕ) (found : List Face) (p : Place) → onward s limit found p ≡ gathered (onward s limit) found (next_of s limit p)
onward_turns s limit found p =
    many s limit p.left (suc p.left) found p (omega arith) (omega arith)
    ∙ gathered_same p.left (pieces_from s limit p.left) (onward s limit) (λ fs q h. many s limit p.left q.left fs q (omega arith) (omega arith)) found (next_of s limit p) (next_lower s limit p.left p)

-- ---- the pieces as they are read
abbrev AreRead : List Face → List Piece → Type 0
AreRead fs ps = AllZip IsReadOf fs ps

read_push : (fs : List Face) (ps : List Piece) (f : Face) (p : Piece) → AreRead fs ps → IsReadOf f p → AreRead (fs ++ f ∷ []) (ps ++ p ∷ [])
read_push [] [] f p h k = (k, tt)
read_push [] (q ∷ ps) f p h k = absurd h
read_push (g ∷ fs) [] f p h k = absurd h
read_push (g ∷ fs) (q ∷ ps) f p h k = (h.0, read_push fs ps f p h.1 k)

read_paths : (fs : List Face) (ps : List Piece) → AreRead fs ps → paths_of fs ≡ map path_of ps
read_paths [] [] h = refl
read_paths [] (p ∷ ps) h = absurd h
read_paths (f ∷ fs) [] h = absurd h
read_paths (f ∷ fs) (p ∷ ps) h = ap (λ path. path ∷ paths_of fs) (sym h.0.path) ∙ ap (λ paths. p.path ∷ paths) (read_paths fs ps h.1)

read_stand : (s : RowSystem) (fs : List Face) (ps : List Piece) → AreRead fs ps → FacesStand s fs → ByRecursion (StandsOn s) ps
read_stand s [] [] h k = tt
read_stand s [] (p ∷ ps) h k = absurd h
read_stand s (f ∷ fs) [] h k = absurd h
read_stand s (f ∷ fs) (p ∷ ps) h k = (λ x stands. subst (λ path. OnFace s path x) (sym h.0.path) (k.0 p.point x h.0.point stands), read_stand s fs ps h.1 k.1)

pub list_shows : (s : RowSystem) (limit : ℕ) (l : PieceList) → IsList s limit l → ListShows s l
list_shows s limit l h =
    let a : AreAll s h.faces = subst (PiecesShow s) h.walk (all_pieces_show s limit) in
    record { all = subst (AreFaces s) (read_paths h.faces l.items h.read) a.all; own = All-from_recursion (StandsOn s) l.items (read_stand s h.faces l.items h.read a.own) }

-- ---- where the walk stands with these pieces found
pub record Gathers (s : RowSystem) (units : ℕ) (found : List Piece) (w : Walk) : Type 0 where
  pub faces : List Face
  pub read : AreRead faces found
  pub same : pieces_of s units ≡ onward s units faces (place_of s w)
  pub fits : WalkFits s w
  pub limit : w.budget.limit ≡ units

pub gathers_first : (s : RowSystem) (units : ℕ) (found : List Piece) (w : Walk) → found ≡ [] → IsFirst s units w → Gathers s units found w
gathers_first s units found w e h = record {
  faces = [];
  read = subst (AreRead []) (sym e) tt;
  same = ap (onward s units []) (sym h.place);
  fits = h.fits;
  limit = h.limit;
}

-- what comes next, at the limit of the whole walk
next_at : (s : RowSystem) (units : ℕ) (w : Walk) (c : Coming) → w.budget.limit ≡ units → next_of s w.budget.limit (place_of s w) ≡ c → next_of s units (place_of s w) ≡ c
next_at s units w c l e = ap (λ m. next_of s m (place_of s w)) (sym l) ∙ e

gathers_turn : (s : RowSystem) (units : ℕ) (found : List Piece) (w : Walk) (c : Coming) (h : Gathers s units found w) → next_of s w.budget.limit (place_of s w) ≡ c → pieces_of s units ≡ gathered (onward s units) h.faces c
gathers_turn s units found w c h e = h.same ∙ (onward_turns s units h.faces (place_of s w) ∙ ap (gathered (onward s units) h.faces) (next_at s units w c h.limit e))

pub gathers_more : (s : RowSystem) (units : ℕ) (found more : List Piece) (w new : Walk) (f : Piece) → Gathers s units found w → Came s w new (Some f) → more ≡ found ++ f ∷ [] → Gathers s units more new
gathers_more s units found more w new f h c e = record {
  faces = h.faces ++ record { path = f.path; dictionary = c.dictionary } ∷ [];
  read = subst (AreRead (h.faces ++ record { path = f.path; dictionary = c.dictionary } ∷ [])) (sym e) (read_push h.faces found (record { path = f.path; dictionary = c.dictionary }) f h.read (record { path = refl; point = c.point }));
  same = gathers_turn s units found w (piece f.path c.dictionary (place_of s new)) h c.same;
  fits = c.fits;
  limit = c.limit ∙ h.limit;
}

pub gathers_all : (s : RowSystem) (units : ℕ) (found : List Piece) (w new : Walk) → Gathers s units found w → Came s w new None → (l : PieceList) → l.items ≡ found → l.work ≡ new.budget.used → l.nodes ≡ new.nodes → IsList s units l
gathers_all s units found w new h c l items work nodes = record {
  faces = h.faces;
  walk = gathers_turn s units found w (over (place_of s new)) h c.same ∙ (ap (λ m. listed h.faces (m - new.budget.used) new.nodes) (c.limit ∙ h.limit) ∙ (ap (λ m. listed h.faces (units - m) new.nodes) (sym work) ∙ ap (listed h.faces (units - l.work)) (sym nodes)));
  read = subst (AreRead h.faces) (sym items) h.read;
}

pub gathers_fault : (s : RowSystem) (units : ℕ) (found : List Piece) (w : Walk) (f : WalkFault) → Gathers s units found w → FaultIs (next_of s w.budget.limit (place_of s w)) w.budget.limit f → ListGives s units (Err f)
gathers_fault s units found w (Wide n p) h e = gathers_turn s units found w (wide_at n p) h e
gathers_fault s units found w (Spent k) h e = (gathers_turn s units found w out_of_units h e.0, e.1 ∙ h.limit)
gathers_fault s units found w NoMemory h e = tt
