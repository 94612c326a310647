-- What a node and all below it take, and how many nodes they are.
use Rattle.std.proofs.Common.{◌≡◌, ℕ, zero, suc, ◌+◌, ◌*◌, ◌<◌, ◌≤◌, List, [], ◌∷◌, length, Bool, true, false, ◌⊎◌, inl, inr, arith, refl, subst}
use Rattle.std.proofs.lemmas.Bool.{cases_lt}
use Rattle.std.proofs.lemmas.Nat.{pow_pos}
use Rattle.emp_rows.specs.declared.system.RowSystem.{RowSystem}
use Rattle.emp_rows.specs.RowPoints.{pair}
use Rattle.emp_cert.specs.declared.tree.Turn.{Turn}
use Rattle.emp_cert.specs.declared.tree.Node.TheVariants.{Branch}
use Rattle.emp_cert.specs.Paths.{turn as path_turn}
use Rattle.emp_dict.specs.Dictionary.{Dictionary}
use Rattle.emp_step.specs.Laws.{IsNumber}
use Rattle.emp_step.specs.Steps.{End, ended, too_wide, spent}
use Rattle.emp_decide.specs.Laws.{started_of}
use Rattle.emp_search.specs.Search.{Ask, fixes, asks_from, asked, worked, Decision, leaf, branch, finding, decided, State, Searched, closed, found, wide_at, out_of_units, writes, then_second, by_decision, by_end, opened, searched, first_state, search_of}
use Rattle.emp_search.specs.Nodes.{IsSettled}
use Rattle.emp_search.proofs.Working.{AllDone, AskedAs, WorkedAs, work_of, child_asks}
use Rattle.emp_search.proofs.Showing.{CanSplit, not_split}
use Rattle.emp_search.proofs.Rooted.{root_asked}
use Rattle.emp_ends.specs.Ends.{step_units, node_units, nodes_below, OpensBelow, SearchesOpenFew, SearchesEnd}
use Rattle.emp_ends.proofs.Sums.{times, times_is, lower, lower_is}
use Rattle.emp_ends.proofs.Splits.{unsplit, unsplit_root, unsplit_less, IsOpen, decided_open}
use Rattle.emp_ends.proofs.Working.{Few, asks_units, start_few, child_few, work_few}

-- ---- so many nodes and units at most, from a state
pub record Closes (m u : ℕ) (before after : State) : Type 0 where
  pub nodes : after.nodes ≤ before.nodes + m
  pub falls : after.left ≤ before.left
  pub units : before.left ≤ after.left + u

abbrev pub Takes : ℕ → ℕ → State → Searched → Type 0
Takes m u st (closed after) = Closes m u st after
Takes m u st (found f after) = after.nodes ≤ st.nodes + m
Takes m u st (wide_at n p) = n ≤ st.nodes + m
Takes m u st out_of_units = st.left < u

-- what a node takes at most: for the whole of its work, and then for itself
abbrev pub most_units : RowSystem → ℕ
most_units s = suc (asks_units s + step_units s)

-- the node may be opened
pub record CanOpen (s : RowSystem) (p : List Turn) (as' : List Ask) (d : Dictionary) : Type 0 where
  pub asks : (n : ℕ) → AskedAs s p (AllDone s p) (asked as' n d).dictionary (asked as' n d).end
  pub few : (n : ℕ) → Few (asks_units s) n (asked as' n d)

-- how much the nodes below a node take, where so many pairs are not split yet
abbrev TakesLower : RowSystem → ℕ → State → Searched → Type 0
TakesLower s u st r = Takes (lower 1 u) (lower (most_units s) u) st r

abbrev TakesAll : RowSystem → ℕ → State → Searched → Type 0
TakesAll s u st r = Takes (1 + lower 1 u) (most_units s + lower (most_units s) u) st r

abbrev Counts : RowSystem → ℕ → (List Ask → Dictionary → State → Searched) → Type 0
Counts s most below = (u : ℕ) (p : List Turn) (as' : List Ask) (d : Dictionary) (st : State) → st.left ≤ most → unsplit p (length s.pairs) ≤ u → CanOpen s p as' d → TakesAll s u st (below as' d st)

-- ---- a branch
child_opens : (s : RowSystem) (p : List Turn) (d : Dictionary) (k : ℕ) → IsSettled s p d → CanSplit s p d k → CanOpen s (path_turn k false ∷ p) (fixes (pair s k).0 ∷ []) d × CanOpen s (path_turn k true ∷ p) (fixes (pair s k).1 ∷ []) d
child_opens s p d k w c = (
  record { asks = λ n. child_asks s (path_turn k false) p n d w (number (pair s k).0 c.first) c.first_free; few = λ n. child_few s p (pair s k).0 n d w.node c.first },
  record { asks = λ n. child_asks s (path_turn k true) p n d w (number (pair s k).1 c.second) c.second_free; few = λ n. child_few s p (pair s k).1 n d w.node c.second },
)
  where
    number : (m : ℕ) → (0 < m) × (m ≤ length s.quantities) → IsNumber d m
    number m h = (h.0, let l = h.1 in let q = w.node.dictionary.marks in omega arith)

-- the second child takes as much as the first one at most
both_take : (m u : ℕ) (st one : State) (r : Searched) → Closes m u st one → Takes m u one r → Takes (m + m) (u + u) st r
both_take m u st one (closed two) a b =
    let n = a.nodes in
    let f = a.falls in
    let l = a.units in
    record { nodes = let h = b.nodes in omega arith; falls = let h = b.falls in omega arith; units = let h = b.units in omega arith }
both_take m u st one (found f two) a b = let n = a.nodes in omega arith
both_take m u st one (wide_at k q) a b = let n = a.nodes in omega arith
both_take m u st one out_of_units a b = let l = a.units in omega arith

branch_takes : (s : RowSystem) (most : ℕ) (below : List Ask → Dictionary → State → Searched) → Counts s most below → (u : ℕ) (p : List Turn) (d : Dictionary) (k : ℕ) (st : State) → st.left ≤ most → unsplit p (length s.pairs) ≤ u → IsSettled s p d → CanSplit s p d k → TakesLower s u st (then_second below s k d (below (fixes (pair s k).0 ∷ []) d (writes (Branch k) st.best st)))
branch_takes s most below counts u p d k st few room w c = go u room
  where
    less : (b : Bool) → unsplit (path_turn k b ∷ p) (length s.pairs) < unsplit p (length s.pairs)
    less b = unsplit_less k b p (length s.pairs) (not_split s p d k w.path c) c.number.0 c.number.1

    second : (v : ℕ) (one : State) → unsplit (path_turn k true ∷ p) (length s.pairs) ≤ v → Closes (1 + lower 1 v) (most_units s + lower (most_units s) v) st one → TakesLower s (suc v) st (below (fixes (pair s k).1 ∷ []) d one)
    second v one room h =
        both_take (1 + lower 1 v) (most_units s + lower (most_units s) v) st one (below (fixes (pair s k).1 ∷ []) d one) h (counts v (path_turn k true ∷ p) (fixes (pair s k).1 ∷ []) d one (let f = h.falls in omega arith) room (child_opens s p d k w c).1)

    first : (v : ℕ) (r : Searched) → unsplit (path_turn k true ∷ p) (length s.pairs) ≤ v → TakesAll s v (writes (Branch k) st.best st) r → TakesLower s (suc v) st (then_second below s k d r)
    first v (closed one) room h = second v one room (record { nodes = h.nodes; falls = h.falls; units = h.units })
    first v (found f one) room h = omega arith
    first v (wide_at n q) room h = omega arith
    first v out_of_units room h = omega arith

    go : (v : ℕ) → unsplit p (length s.pairs) ≤ v → TakesLower s v st (then_second below s k d (below (fixes (pair s k).0 ∷ []) d (writes (Branch k) st.best st)))
    go zero room = let l = less false in absurd (omega arith)
    go (suc v) room =
        first v (below (fixes (pair s k).0 ∷ []) d (writes (Branch k) st.best st)) (let l = less true in omega arith) (counts v (path_turn k false ∷ p) (fixes (pair s k).0 ∷ []) d (writes (Branch k) st.best st) few (let l = less false in omega arith) (child_opens s p d k w c).0)

decision_takes : (s : RowSystem) (most : ℕ) (below : List Ask → Dictionary → State → Searched) → Counts s most below → (u : ℕ) (p : List Turn) (d : Dictionary) (st : State) (x : Decision) → st.left ≤ most → unsplit p (length s.pairs) ≤ u → IsOpen s p d x → TakesLower s u st (by_decision below s d st x)
decision_takes s most below counts u p d st (leaf n best) few room h = record { nodes = omega arith; falls = omega arith; units = omega arith }
decision_takes s most below counts u p d st (finding f) few room h = omega arith
decision_takes s most below counts u p d st (branch k) few room h = branch_takes s most below counts u p d k st few room h.0 h.1

-- ---- nodes
-- a node with all below it, from what it has left after its work
node_takes : (m u b left : ℕ) (before after : State) (r : Searched) → before.left ≡ suc left → after.nodes ≡ suc before.nodes → after.left ≤ left → suc left ≤ after.left + b → Takes m u after r → Takes (1 + m) (b + u) before r
node_takes m u b left before after (closed st) e n f l h = record { nodes = let k = h.nodes in omega arith; falls = let k = h.falls in omega arith; units = let k = h.units in omega arith }
node_takes m u b left before after (found x st) e n f l h = omega arith
node_takes m u b left before after (wide_at k q) e n f l h = omega arith
node_takes m u b left before after out_of_units e n f l h = omega arith

pub searched_counts : (s : RowSystem) (limit most : ℕ) → Counts s most (searched s limit most)
searched_counts s limit zero u p as' d st few room c = omega arith
searched_counts s limit (suc most) u p as' d st few room c = by st.left refl (λ v q bs e x a b h. searched_counts s limit most v q bs e x a b h)
  where
    ends : (left : ℕ) → st.left ≡ suc left → Counts s most (searched s limit most) → (e : End) → (worked s as' left d).end ≡ e → WorkedAs s p (worked s as' left d).dictionary e → TakesAll s u st (by_end (searched s limit most) s limit st (worked s as' left d) e)
    ends left same counts (ended o) q w =
        let f = work_few s p as' left d (c.asks left) (c.few left) in
        let l = f.left in
        let units = f.few in
        let after : State = record { written = st.written; best = st.best; left = (worked s as' left d).left; nodes = suc st.nodes } in
        node_takes (lower 1 u) (lower (most_units s) u) (most_units s) left st after (by_decision (searched s limit most) s (worked s as' left d).dictionary after (decided s st.best (worked s as' left d).dictionary o)) same refl l (omega arith)
        (decision_takes s most (searched s limit most) counts u p (worked s as' left d).dictionary after (decided s st.best (worked s as' left d).dictionary o) (omega arith) room (decided_open s p st.best (worked s as' left d).dictionary o w))
    ends left same counts too_wide q w = omega arith
    ends left same counts spent q w = go (cases_lt left (asks_units s + step_units s))
      where
        go : (left < asks_units s + step_units s) ⊎ (asks_units s + step_units s ≤ left) → st.left < most_units s + lower (most_units s) u
        go (inl h) = omega arith
        go (inr h) = absurd ((work_few s p as' left d (c.asks left) (c.few left)).ends h q)

    by : (left : ℕ) → st.left ≡ left → Counts s most (searched s limit most) → TakesAll s u st (opened (searched s limit most) s limit as' d st left)
    by zero same counts = omega arith
    by (suc left) same counts = ends left same counts (worked s as' left d).end refl (work_of s p as' left d (c.asks left))

-- ---- the whole search
pub search_counts : (s : RowSystem) (limit : ℕ) → TakesAll s (length s.pairs) (first_state limit 0) (search_of s limit)
search_counts s limit = searched_counts s limit limit (length s.pairs) [] (asks_from 1 s.kinds) (started_of s) (first_state limit 0) (omega arith) (let e = unsplit_root (length s.pairs) in omega arith) (record { asks = root_asked s; few = start_few s })

pub searches_open_few : SearchesOpenFew
searches_open_few s limit = go (search_of s limit) (search_counts s limit)
  where
    fewer : 1 + lower 1 (length s.pairs) < nodes_below s
    fewer = let e = lower_is 1 (length s.pairs) in omega arith

    go : (r : Searched) → TakesAll s (length s.pairs) (first_state limit 0) r → OpensBelow (nodes_below s) r
    go (closed st) h = let n = h.nodes in let f = fewer in omega arith
    go (found x st) h = let f = fewer in omega arith
    go (wide_at k p) h = let f = fewer in omega arith
    go out_of_units h = tt

-- what a node takes is no more than the law says
most_few : (s : RowSystem) → most_units s ≤ node_units s
most_few s = by (length s.quantities) (step_units s) (pow_pos (s.base + length s.quantities)) (times_is (length s.quantities) (step_units s))
  where
    by : (q u : ℕ) → 0 < u → times q u ≡ q * u → suc (times q u + u) ≤ (q + 2) * u
    by q u a e = let h : (q + 2) * u ≡ q * u + 2 * u = grind arith in omega arith

pub searches_end : SearchesEnd
searches_end s limit few e = over (subst (TakesAll s (length s.pairs) (first_state limit 0)) e (search_counts s limit))
  where
    tree : most_units s + lower (most_units s) (length s.pairs) + most_units s ≡ nodes_below s * most_units s
    tree = lower_is (most_units s) (length s.pairs)

    wider : (n a b : ℕ) → a ≤ b → (n * a) ≤ (n * b)
    wider n a b h = grind arith

    over : limit < most_units s + lower (most_units s) (length s.pairs) → ⊥
    over h = let w = wider (nodes_below s) (most_units s) (node_units s) (most_few s) in let t = tree in absurd (omega arith)
