-- What the walk of all pieces shows.
use Rattle.std.proofs.Common.{◌≡◌, ◌≢◌, ◌⊎◌, inl, inr, ℕ, zero, suc, ◌-◌, ◌<◌, ◌≤◌, pos, true, false, List, [], ◌∷◌, ◌++◌, length, get_or, Option, Some, None, arith, refl, sym, ap, subst, ◌∙◌}
use Rattle.emp_algebra.proofs.Deciding.{refutation_leaves_none}
use Rattle.emp_num.specs.Point.{Point, StandsFor}
use Rattle.emp_num.specs.declared.frac.Frac.{Frac}
use Rattle.emp_rows.specs.declared.system.RowSystem.{RowSystem}
use Rattle.emp_rows.specs.RowPoints.{pair, quantity, value_at, OneVanishes, Solves}
use Rattle.emp_cert.specs.declared.tree.Turn.{Turn}
use Rattle.emp_cert.specs.Paths.{member, OnPath}
use Rattle.emp_cert.specs.Paths.{turn as path_turn}
use Rattle.emp_cert.specs.Deciders.{weighted, IsFarkasRow}
use Rattle.emp_cert.proofs.Shown.{meets_path}
use Rattle.emp_dict.specs.declared.label.Mark.TheVariants.{Fixed}
use Rattle.emp_dict.specs.Dictionary.{Dictionary, mark_at}
use Rattle.emp_step.specs.declared.outcome.Outcome.TheVariants.{Held, Empty, Best, Ray}
use Rattle.emp_step.specs.Steps.{End, ended, too_wide, spent}
use Rattle.emp_decide.specs.Reads.{farkas_factors, IsPointOf}
use Rattle.emp_decide.specs.Laws.{IsRefused}
use Rattle.emp_decide.proofs.Decides.{refused_refutes}
use Rattle.emp_search.specs.Search.{asked, first_pair}
use Rattle.emp_search.specs.Nodes.{IsNode, PathFixed, IsSettled}
use Rattle.emp_search.proofs.Working.{AllDone, AskedAs, child_asks}
use Rattle.emp_search.proofs.Rooted.{root_asked}
use Rattle.emp_search.proofs.Solved.{solves_by, one_vanishes, zero_value}
use Rattle.emp_search.proofs.Showing.{FirstAt, first_some, first_none, first_number, second_number}
use Rattle.emp_dict.specs.declared.label.Mark.{Mark}
use Rattle.emp_dict.specs.declared.label.Mark.TheVariants.{Unasked}
use Rattle.std.proofs.lemmas.List.{get_or_past}
use Rattle.std.proofs.lemmas.Bool.{cases_lt}
use Rattle.emp_faces.specs.Pieces.{is_settled, is_open, Waiting, Place, child, split_at, Coming, piece, over, wide_at, out_of_units, by_pair, by_outcome, by_end, opened, turned, next_from, next_of, Piece, Listed, stopped, gathered, pieces_from, first_of}
use Rattle.emp_faces.specs.Shown.{AllVanish, OnFace, OnSome, paths_of, StandsOn, AllStand, PiecesShow, AllPiecesShow}
use Rattle.emp_faces.proofs.Settled.{closed_pair, open_free, settled_value, fixed_top, settled_not_above}

-- ---- paths: the numbers of the quantities, in order from the root
abbrev pub numbers : RowSystem → List Turn → List ℕ
numbers s [] = []
numbers s (t ∷ p) = numbers s p ++ member s t ∷ []

vanish_push : (s : RowSystem) (ks : List ℕ) (k : ℕ) (x : Point) → AllVanish s ks x → value_at (quantity s k) x ≡ pos 0 → AllVanish s (ks ++ k ∷ []) x
vanish_push s [] k x h z = (z, tt)
vanish_push s (l ∷ ks) k x h z = (h.0, vanish_push s ks k x h.1 z)

vanish_pop : (s : RowSystem) (ks : List ℕ) (k : ℕ) (x : Point) → AllVanish s (ks ++ k ∷ []) x → AllVanish s ks x × (value_at (quantity s k) x ≡ pos 0)
vanish_pop s [] k x h = (tt, h.0)
vanish_pop s (l ∷ ks) k x h = let r = vanish_pop s ks k x h.1 in ((h.0, r.0), r.1)

path_on : (s : RowSystem) (p : List Turn) (x : Point) → AllVanish s (numbers s p) x → OnPath s p x
path_on s [] x h = tt
path_on s (t ∷ p) x h = let r = vanish_pop s (numbers s p) (member s t) x h in (r.1, path_on s p x r.0)

-- ---- the nodes that wait, and pieces
pub record WaitFits (s : RowSystem) (w : Waiting) : Type 0 where
  pub turns : List Turn
  pub path : w.path ≡ numbers s turns
  pub asks : (n : ℕ) → AskedAs s turns (AllDone s turns) (asked w.asks n w.dictionary).dictionary (asked w.asks n w.dictionary).end

abbrev pub AllWait : RowSystem → List Waiting → Type 0
AllWait s [] = Unit {0}
AllWait s (w ∷ ws) = WaitFits s w × AllWait s ws

-- the quantities of the path of one of them are 0
abbrev pub Under : RowSystem → List Waiting → Point → Type 0
Under s [] x = ⊥
Under s (w ∷ ws) x = AllVanish s w.path x ⊎ Under s ws x

-- its face has row points alone, and its point is on it
pub record IsPiece (s : RowSystem) (f : Piece) : Type 0 where
  pub solves : (x : Point) → OnFace s f.path x → Solves s x
  pub stands : StandsOn s f

-- a Fixed mark is that of a quantity
marked_below : (ms : List Mark) (i : ℕ) → get_or ms i Unasked ≡ Fixed → i < length ms
marked_below ms i f = go (cases_lt i (length ms))
  where
    go : (i < length ms) ⊎ (length ms ≤ i) → i < length ms
    go (inl b) = b
    go (inr b) = let u = get_or_past ms i Unasked b in let z : Unasked ≡ Fixed = sym u ∙ f in absurd (cc)

-- ---- a settled node all of whose pairs are settled

face_solves : (s : RowSystem) (p : List Turn) (d : Dictionary) → IsSettled s p d → first_pair (is_open d) 1 s.pairs ≡ None → (x : Point) → OnFace s (numbers s p) x → Solves s x
face_solves s p d st none x h = record { count = h.count; kinds = h.kinds; pairs = λ i b. by (get_or s.pairs i (0, 0)) (first_number s i b) (second_number s i b) (first_none (is_open d) 1 s.pairs none i b) }
  where
    value : (k : ℕ) → (0 < k) × (k ≤ length s.quantities) → is_settled d k ≡ true → value_at (quantity s k) x ≡ pos 0
    value k n e = settled_value s p d st.node x h.count h.kinds (path_on s p x h.path) k n.0 n.1 e

    by : (q : ℕ × ℕ) → (0 < q.0) × (q.0 ≤ length s.quantities) → (0 < q.1) × (q.1 ≤ length s.quantities) → is_open d q ≡ false → OneVanishes s x q
    by (a, b) ha hb e = go (closed_pair d a b e)
      where
        go : (is_settled d a ≡ true) ⊎ (is_settled d b ≡ true) → OneVanishes s x (a, b)
        go (inl t) = inl (value a ha t)
        go (inr t) = inr (value b hb t)

point_stands : (s : RowSystem) (p : List Turn) (d : Dictionary) → IsSettled s p d → first_pair (is_open d) 1 s.pairs ≡ None → (gs : List Frac) (x : Point) → IsPointOf d gs → StandsFor gs x → OnFace s (numbers s p) x
point_stands s p d st none gs x is stands = record { count = solved.count; kinds = solved.kinds; path = path p st.path }
  where
    by : (q : ℕ × ℕ) → (0 < q.0) × (q.0 ≤ length s.quantities) → (0 < q.1) × (q.1 ≤ length s.quantities) → is_open d q ≡ false → OneVanishes s x q
    by (a, b) ha hb e = one_vanishes s p d st gs x is stands a b ha hb (settled_not_above s p d st.node a b e)

    solved : Solves s x
    solved = solves_by s p d st gs x is stands (λ i b. by (get_or s.pairs i (0, 0)) (first_number s i b) (second_number s i b) (first_none (is_open d) 1 s.pairs none i b))

    path : (r : List Turn) → PathFixed s r d → AllVanish s (numbers s r) x
    path [] f = tt
    path (t ∷ r) f = vanish_push s (numbers s r) (member s t) x (path r f.1) (value (member s t) f.0)
      where
        of_place : (i : ℕ) → mark_at d (suc i) ≡ Fixed → value_at (quantity s (suc i)) x ≡ pos 0
        of_place i g =
            let b = marked_below d.marks (suc i - 1) g in
            let m = st.node.dictionary.marks in
            zero_value s p d st gs x is stands (suc i) (omega arith) (omega arith) (fixed_top s p d st.node (suc i) g)

        value : (k : ℕ) → mark_at d k ≡ Fixed → value_at (quantity s k) x ≡ pos 0
        value zero g = of_place 0 g
        value (suc i) g = of_place i g

is_piece : (s : RowSystem) (p : List Turn) (d : Dictionary) (ks : List ℕ) → ks ≡ numbers s p → IsSettled s p d → first_pair (is_open d) 1 s.pairs ≡ None → IsPiece s (record { path = ks; dictionary = d })
is_piece s p d ks e st none = record {
  solves = λ x h. face_solves s p d st none x (subst (λ ms. OnFace s ms x) e h);
  stands = λ gs x is stands. subst (λ ms. OnFace s ms x) (sym e) (point_stands s p d st none gs x is stands);
}

-- ---- what comes next
pub record PieceComes (s : RowSystem) (p : Place) (path : List ℕ) (d : Dictionary) (q : Place) : Type 0 where
  pub waits : AllWait s q.waiting
  pub is : IsPiece s (record { path = path; dictionary = d })
  pub covers : (x : Point) → Solves s x → Under s p.waiting x → AllVanish s path x ⊎ Under s q.waiting x

abbrev pub NextShows : RowSystem → Place → Coming → Type 0
NextShows s p (piece path d q) = PieceComes s p path d q
NextShows s p (over q) = (x : Point) → Solves s x → Under s p.waiting x → ⊥
NextShows s p (wide_at n k) = Unit {0}
NextShows s p out_of_units = Unit {0}

-- where each row point below what waited is below what waits
abbrev Below : RowSystem → List Waiting → List Waiting → Type 0
Below s ws vs = (x : Point) → Solves s x → Under s ws x → Under s vs x

shows_from : (s : RowSystem) (p q : Place) → Below s p.waiting q.waiting → (c : Coming) → NextShows s q c → NextShows s p c
shows_from s p q b (piece path d r) h = record { waits = h.waits; is = h.is; covers = λ x sol u. h.covers x sol (b x sol u) }
shows_from s p q b (over r) h = λ x sol u. h x sol (b x sol u)
shows_from s p q b (wide_at n k) h = tt
shows_from s p q b out_of_units h = tt

abbrev AllShow : RowSystem → (Place → Coming) → Type 0
AllShow s rest = (q : Place) → AllWait s q.waiting → NextShows s q (rest q)

module _ (s : RowSystem) (rest : Place → Coming) (shows : AllShow s rest) (p : Place) (w : Waiting) (others : List Waiting) (is : p.waiting ≡ w ∷ others) (fits : WaitFits s w) (fit : AllWait s others) where
  under : (x : Point) → Under s p.waiting x → AllVanish s w.path x ⊎ Under s others x
  under x u = subst (λ ws. Under s ws x) is u

  on_turns : (x : Point) → AllVanish s w.path x → OnPath s fits.turns x
  on_turns x h = path_on s fits.turns x (subst (λ ks. AllVanish s ks x) fits.path h)

  -- a refused node has no row point below it
  refused : (d : Dictionary) (q : Place) (r k : ℕ) → q.waiting ≡ others → IsNode s fits.turns d → IsRefused s fits.turns d r k → NextShows s p (rest q)
  refused d q r k e n x = shows_from s p q (λ y sol u. go y sol (under y u)) (rest q) (shows q (subst (AllWait s) (sym e) fit))
    where
      farkas : IsFarkasRow s fits.turns (farkas_factors d r)
      farkas = refused_refutes s fits.turns d r k n.dictionary n.level n.on x

      go : (y : Point) → Solves s y → AllVanish s w.path y ⊎ Under s others y → Under s q.waiting y
      go y sol (inl h) = absurd (refutation_leaves_none (weighted s fits.turns 1 s.quantities s.kinds (farkas_factors d r)) farkas y.den y.nums y.positive (meets_path s fits.turns (farkas_factors d r) y sol (on_turns y h)))
      go y sol (inr u) = subst (λ ws. Under s ws y) (sym e) u

  -- a pair is split
  split_shows : (d : Dictionary) (q : Place) (k : ℕ) → q.waiting ≡ others → IsSettled s fits.turns d → first_pair (is_open d) 1 s.pairs ≡ Some k → NextShows s p (rest (split_at s w.path d k q))
  split_shows d q k e st h = shows_from s p (split_at s w.path d k q) (λ y sol u. go y sol (under y u)) (rest (split_at s w.path d k q)) (shows (split_at s w.path d k q) (first, (second, subst (AllWait s) (sym e) fit)))
    where
      f : FirstAt (is_open d) 1 s.pairs k
      f = first_some (is_open d) 1 s.pairs k h

      at : f.place ≡ k - 1
      at = let i = f.is in omega arith

      free : (mark_at d (pair s k).0 ≢ Fixed) × (mark_at d (pair s k).1 ≢ Fixed)
      free = subst (λ n. (mark_at d (get_or s.pairs n (0, 0)).0 ≢ Fixed) × (mark_at d (get_or s.pairs n (0, 0)).1 ≢ Fixed)) at (open_free d (get_or s.pairs f.place (0, 0)) f.passes)

      below : k - 1 < length s.pairs
      below = let b = f.below in let a = at in omega arith

      number : (m : ℕ) → (0 < m) × (m ≤ length s.quantities) → (0 < m) × (m ≤ length d.marks)
      number m b = (b.0, let c = b.1 in let q = st.node.dictionary.marks in omega arith)

      first : WaitFits s (child w.path d (pair s k).0)
      first = record { turns = path_turn k false ∷ fits.turns; path = ap (λ ks. ks ++ (pair s k).0 ∷ []) fits.path; asks = λ n. child_asks s (path_turn k false) fits.turns n d st (number (pair s k).0 (first_number s (k - 1) below)) free.0 }

      second : WaitFits s (child w.path d (pair s k).1)
      second = record { turns = path_turn k true ∷ fits.turns; path = ap (λ ks. ks ++ (pair s k).1 ∷ []) fits.path; asks = λ n. child_asks s (path_turn k true) fits.turns n d st (number (pair s k).1 (second_number s (k - 1) below)) free.1 }

      go : (y : Point) → Solves s y → AllVanish s w.path y ⊎ Under s others y → Under s (split_at s w.path d k q).waiting y
      go y sol (inr u) = inr (inr (subst (λ ws. Under s ws y) (sym e) u))
      go y sol (inl v) = by (sol.pairs (k - 1) below)
        where
          by : (value_at (quantity s (pair s k).0) y ≡ pos 0) ⊎ (value_at (quantity s (pair s k).1) y ≡ pos 0) → Under s (split_at s w.path d k q).waiting y
          by (inl z) = inl (vanish_push s w.path (pair s k).0 y v z)
          by (inr z) = inr (inl (vanish_push s w.path (pair s k).1 y v z))

  held_shows : (d : Dictionary) (q : Place) → q.waiting ≡ others → IsSettled s fits.turns d → NextShows s p (by_outcome rest s w.path d q Held)
  held_shows d q e st = go (first_pair (is_open d) 1 s.pairs) refl
    where
      covers : (x : Point) → AllVanish s w.path x ⊎ Under s others x → AllVanish s w.path x ⊎ Under s q.waiting x
      covers x (inl h) = inl h
      covers x (inr u) = inr (subst (λ ws. Under s ws x) (sym e) u)

      go : (o : Option ℕ) → first_pair (is_open d) 1 s.pairs ≡ o → NextShows s p (by_pair rest s w.path d q o)
      go None h = record { waits = subst (AllWait s) (sym e) fit; is = is_piece s fits.turns d w.path fits.path st h; covers = λ x sol u. covers x (under x u) }
      go (Some k) h = split_shows d q k e st h

  end_shows : (limit nodes : ℕ) (left : ℕ) → NextShows s p (by_end rest s limit w.path others nodes (asked w.asks left w.dictionary) (asked w.asks left w.dictionary).end)
  end_shows limit nodes left = go (asked w.asks left w.dictionary).end (fits.asks left)
    where
      q : Place
      q = record { waiting = others; left = (asked w.asks left w.dictionary).left; nodes = nodes }

      go : (e : End) → AskedAs s fits.turns (AllDone s fits.turns) (asked w.asks left w.dictionary).dictionary e → NextShows s p (by_end rest s limit w.path others nodes (asked w.asks left w.dictionary) e)
      go (ended Held) h = held_shows (asked w.asks left w.dictionary).dictionary q refl (record { node = h.0; all = h.1.0; path = h.1.1 })
      go (ended (Empty r)) h = refused (asked w.asks left w.dictionary).dictionary q r h.1.0 refl h.0 h.1.1
      go (ended (Best r)) h = absurd h
      go (ended (Ray j up)) h = absurd h
      go too_wide h = tt
      go spent h = tt

  opened_shows : (limit nodes left : ℕ) → NextShows s p (opened rest s limit w others nodes left)
  opened_shows limit nodes zero = tt
  opened_shows limit nodes (suc left) = end_shows limit (suc nodes) left

turned_shows : (s : RowSystem) (rest : Place → Coming) → AllShow s rest → (limit : ℕ) (p : Place) → AllWait s p.waiting → NextShows s p (turned rest s limit p p.waiting)
turned_shows s rest shows limit p fit = go p.waiting refl fit
  where
    go : (ws : List Waiting) → p.waiting ≡ ws → AllWait s ws → NextShows s p (turned rest s limit p ws)
    go [] e f = λ x sol u. absurd (subst (λ ws. Under s ws x) e u)
    go (w ∷ others) e f = opened_shows s rest shows p w others e f.0 f.1 limit p.nodes p.left

pub next_shows : (s : RowSystem) (limit most : ℕ) (p : Place) → AllWait s p.waiting → NextShows s p (next_from s limit most p)
next_shows s limit zero p fit = turned_shows s (λ q. out_of_units) (λ q f. tt) limit p fit
next_shows s limit (suc most) p fit = turned_shows s (next_from s limit most) (λ q f. next_shows s limit most q f) limit p fit

pub first_waits : (s : RowSystem) (limit : ℕ) → AllWait s (first_of s limit).waiting
first_waits s limit = (record { turns = []; path = refl; asks = root_asked s }, tt)

-- ---- the whole walk
abbrev pub ArePieces : RowSystem → List Piece → Type 0
ArePieces s [] = Unit {0}
ArePieces s (f ∷ fs) = IsPiece s f × ArePieces s fs

are_push : (s : RowSystem) (fs : List Piece) (f : Piece) → ArePieces s fs → IsPiece s f → ArePieces s (fs ++ f ∷ [])
are_push s [] f h i = (i, tt)
are_push s (g ∷ fs) f h i = (h.0, are_push s fs f h.1 i)

are_solve : (s : RowSystem) (fs : List Piece) → ArePieces s fs → (x : Point) → OnSome s (paths_of fs) x → Solves s x
are_solve s [] h x o = absurd o
are_solve s (f ∷ fs) h x (inl o) = h.0.solves x o
are_solve s (f ∷ fs) h x (inr o) = are_solve s fs h.1 x o

are_stand : (s : RowSystem) (fs : List Piece) → ArePieces s fs → AllStand s fs
are_stand s [] h = tt
are_stand s (f ∷ fs) h = (h.0.stands, are_stand s fs h.1)

on_before : (s : RowSystem) (fs : List Piece) (f : Piece) (x : Point) → OnSome s (paths_of fs) x → OnSome s (paths_of (fs ++ f ∷ [])) x
on_before s [] f x o = absurd o
on_before s (g ∷ fs) f x (inl o) = inl o
on_before s (g ∷ fs) f x (inr o) = inr (on_before s fs f x o)

on_last : (s : RowSystem) (fs : List Piece) (f : Piece) (x : Point) → OnFace s f.path x → OnSome s (paths_of (fs ++ f ∷ [])) x
on_last s [] f x o = inl o
on_last s (g ∷ fs) f x o = inr (on_last s fs f x o)

-- each row point is on a face that was found, or below a node that waits
abbrev pub Covered : RowSystem → List Piece → List Waiting → Type 0
Covered s found ws = (x : Point) → Solves s x → OnSome s (paths_of found) x ⊎ Under s ws x

gathered_shows : (s : RowSystem) (rest : List Piece → Place → Listed) → ((fs : List Piece) (q : Place) → ArePieces s fs → Covered s fs q.waiting → AllWait s q.waiting → PiecesShow s (rest fs q)) → (found : List Piece) (p : Place) → ArePieces s found → Covered s found p.waiting → (c : Coming) → NextShows s p c → PiecesShow s (gathered rest found c)
gathered_shows s rest shows found p are cover (piece path d q) h = shows (found ++ record { path = path; dictionary = d } ∷ []) q (are_push s found (record { path = path; dictionary = d }) are h.is) (λ x sol. go x sol (cover x sol)) h.waits
  where
    f : Piece
    f = record { path = path; dictionary = d }

    by : (x : Point) → Solves s x → AllVanish s path x ⊎ Under s q.waiting x → OnSome s (paths_of (found ++ f ∷ [])) x ⊎ Under s q.waiting x
    by x sol (inl v) = inl (on_last s found f x (record { count = sol.count; kinds = sol.kinds; path = v }))
    by x sol (inr u) = inr u

    go : (x : Point) → Solves s x → OnSome s (paths_of found) x ⊎ Under s p.waiting x → OnSome s (paths_of (found ++ f ∷ [])) x ⊎ Under s q.waiting x
    go x sol (inl o) = inl (on_before s found f x o)
    go x sol (inr u) = by x sol (h.covers x sol u)
gathered_shows s rest shows found p are cover (over q) h = record { all = λ x. (λ sol. go x sol (cover x sol), λ o. are_solve s found are x o); own = are_stand s found are }
  where
    go : (x : Point) → Solves s x → OnSome s (paths_of found) x ⊎ Under s p.waiting x → OnSome s (paths_of found) x
    go x sol (inl o) = o
    go x sol (inr u) = absurd (h x sol u)
gathered_shows s rest shows found p are cover (wide_at n k) h = tt
gathered_shows s rest shows found p are cover out_of_units h = tt

pub pieces_show : (s : RowSystem) (limit most : ℕ) (found : List Piece) (p : Place) → ArePieces s found → Covered s found p.waiting → AllWait s p.waiting → PiecesShow s (pieces_from s limit most found p)
pieces_show s limit zero found p are cover fit = gathered_shows s (λ fs q. stopped) (λ fs q a c f. tt) found p are cover (next_of s limit p) (next_shows s limit p.left p fit)
pieces_show s limit (suc most) found p are cover fit = gathered_shows s (pieces_from s limit most) (λ fs q a c f. pieces_show s limit most fs q a c f) found p are cover (next_of s limit p) (next_shows s limit p.left p fit)

pub all_pieces_show : AllPiecesShow
all_pieces_show s limit = pieces_show s limit limit [] (first_of s limit) tt (λ x sol. inr (inl tt)) (first_waits s limit)
