-- The dictionary of what a search found is one of the system.
use Rattle.std.proofs.Common.{◌≡◌, ℕ, zero, suc, ◌<◌, ◌≤◌, Bool, true, false, cond, List, [], ◌∷◌, length, Option, Some, None, arith, refl, sym, subst}
use Rattle.emp_rows.specs.declared.system.RowSystem.{RowSystem}
use Rattle.emp_rows.specs.RowPoints.{pair}
use Rattle.emp_cert.specs.declared.tree.Turn.{Turn}
use Rattle.emp_cert.specs.declared.tree.Node.TheVariants.{Branch}
use Rattle.emp_cert.specs.Paths.{turn as path_turn}
use Rattle.emp_dict.specs.Dictionary.{Dictionary}
use Rattle.emp_step.specs.declared.outcome.Outcome.{Outcome}
use Rattle.emp_step.specs.declared.outcome.Outcome.TheVariants.{Held, Empty, Best, Ray}
use Rattle.emp_step.specs.Steps.{End, ended, too_wide, spent}
use Rattle.emp_step.specs.Laws.{IsNumber}
use Rattle.emp_decide.specs.Laws.{IsDictionaryOf, started_of}
use Rattle.emp_search.specs.Search.{Ask, fixes, asks_from, asked, worked, both_above, is_broken, first_pair, Finding, point, ray, Decision, leaf, branch, finding, is_bounded, split_or, bound_of, decided, State, Searched, closed, found, wide_at, out_of_units, writes, then_second, by_decision, by_end, opened, searched, first_state, search_of}
use Rattle.emp_search.specs.Nodes.{IsSettled}
use Rattle.emp_search.proofs.Working.{AllDone, AskedAs, WorkedAs, work_of, child_asks}
use Rattle.emp_search.proofs.Showing.{CanSplit}
use Rattle.emp_search.proofs.Rooted.{root_asked}
use Rattle.emp_ends.proofs.Splits.{IsOpen, decided_open}

-- ---- what was found
abbrev pub finding_of : Finding → Dictionary
finding_of (point d) = d
finding_of (ray d j up) = d

abbrev FoundIn : RowSystem → Searched → Type 0
FoundIn s (closed st) = Unit {0}
FoundIn s (found f st) = IsDictionaryOf s (finding_of f)
FoundIn s (wide_at n p) = Unit {0}
FoundIn s out_of_units = Unit {0}

-- a node may be opened
abbrev CanOpen : RowSystem → List Turn → List Ask → Dictionary → Type 0
CanOpen s p as' d = (n : ℕ) → AskedAs s p (AllDone s p) (asked as' n d).dictionary (asked as' n d).end

abbrev Finds : RowSystem → (List Ask → Dictionary → State → Searched) → Type 0
Finds s below = (p : List Turn) (as' : List Ask) (d : Dictionary) (st : State) → CanOpen s p as' d → FoundIn s (below as' d st)

-- ---- a branch
member_number : (s : RowSystem) (d : Dictionary) (k : ℕ) → IsDictionaryOf s d → (0 < k) × (k ≤ length s.quantities) → IsNumber d k
member_number s d k t h = (h.0, let l = h.1 in let q = t.marks in omega arith)

branch_finds : (s : RowSystem) (below : List Ask → Dictionary → State → Searched) → Finds s below → (p : List Turn) (d : Dictionary) (k : ℕ) (st : State) → IsSettled s p d → CanSplit s p d k → FoundIn s (then_second below s k d (below (fixes (pair s k).0 ∷ []) d (writes (Branch k) st.best st)))
branch_finds s below finds p d k st w c =
    first (below (fixes (pair s k).0 ∷ []) d (writes (Branch k) st.best st))
    (finds (path_turn k false ∷ p) (fixes (pair s k).0 ∷ []) d (writes (Branch k) st.best st)
    (λ n. child_asks s (path_turn k false) p n d w (member_number s d (pair s k).0 w.node.dictionary c.first) c.first_free))
  where
    first : (r : Searched) → FoundIn s r → FoundIn s (then_second below s k d r)
    first (closed one) h =
        finds (path_turn k true ∷ p) (fixes (pair s k).1 ∷ []) d one
        (λ n. child_asks s (path_turn k true) p n d w (member_number s d (pair s k).1 w.node.dictionary c.second) c.second_free)
    first (found f one) h = h
    first (wide_at n q) h = tt
    first out_of_units h = tt

-- ---- a decision finds only the node's own dictionary
abbrev IsOwn : Dictionary → Decision → Type 0
IsOwn d (leaf n best) = Unit {0}
IsOwn d (branch k) = Unit {0}
IsOwn d (finding f) = finding_of f ≡ d

split_own : (d : Dictionary) (x : Decision) (o : Option ℕ) → IsOwn d x → IsOwn d (split_or x o)
split_own d x None h = h
split_own d x (Some k) h = tt

decided_own : (s : RowSystem) (best : Option Dictionary) (d : Dictionary) (o : Outcome) → IsOwn d (decided s best d o)
decided_own s best d Held = split_own d (finding (point d)) (first_pair (both_above d) 1 s.pairs) refl
decided_own s best d (Empty r) = tt
decided_own s best d (Best r) = go (is_bounded best d r)
  where
    go : (c : Bool) → IsOwn d (cond c (leaf (bound_of d r) best) (split_or (leaf (bound_of d r) (Some d)) (first_pair (both_above d) 1 s.pairs)))
    go true = tt
    go false = split_own d (leaf (bound_of d r) (Some d)) (first_pair (both_above d) 1 s.pairs) tt
decided_own s best d (Ray j up) = split_own d (finding (ray d j up)) (first_pair (is_broken d j) 1 s.pairs) refl

work_dictionary : (s : RowSystem) (p : List Turn) (d : Dictionary) (o : Outcome) → WorkedAs s p d (ended o) → IsDictionaryOf s d
work_dictionary s p d Held w = w.1.node.dictionary
work_dictionary s p d (Empty r) w = w.0.dictionary
work_dictionary s p d (Best r) w = w.2.node.dictionary
work_dictionary s p d (Ray j up) w = w.2.node.dictionary

decision_finds : (s : RowSystem) (below : List Ask → Dictionary → State → Searched) → Finds s below → (p : List Turn) (d : Dictionary) (st : State) (x : Decision) → IsDictionaryOf s d → IsOwn d x → IsOpen s p d x → FoundIn s (by_decision below s d st x)
decision_finds s below finds p d st (leaf n best) t own h = tt
decision_finds s below finds p d st (finding f) t own h = subst (IsDictionaryOf s) (sym own) t
decision_finds s below finds p d st (branch k) t own h = branch_finds s below finds p d k st h.0 h.1

-- ---- nodes
searched_finds : (s : RowSystem) (limit most : ℕ) → Finds s (searched s limit most)
searched_finds s limit zero p as' d st c = tt
searched_finds s limit (suc most) p as' d st c = by st.left (λ q bs e x h. searched_finds s limit most q bs e x h)
  where
    ends : (left : ℕ) → Finds s (searched s limit most) → (e : End) → WorkedAs s p (worked s as' left d).dictionary e → FoundIn s (by_end (searched s limit most) s limit st (worked s as' left d) e)
    ends left finds (ended o) w =
        let after : State = record { written = st.written; best = st.best; left = (worked s as' left d).left; nodes = suc st.nodes } in
        let e = (worked s as' left d).dictionary in
        decision_finds s (searched s limit most) finds p e after (decided s st.best e o) (work_dictionary s p e o w) (decided_own s st.best e o) (decided_open s p st.best e o w)
    ends left finds too_wide w = tt
    ends left finds spent w = tt

    by : (left : ℕ) → Finds s (searched s limit most) → FoundIn s (opened (searched s limit most) s limit as' d st left)
    by zero finds = tt
    by (suc left) finds = ends left finds (worked s as' left d).end (work_of s p as' left d (c left))

pub found_in : (s : RowSystem) (limit : ℕ) (f : Finding) (st : State) → search_of s limit ≡ found f st → IsDictionaryOf s (finding_of f)
found_in s limit f st e = subst (FoundIn s) e (searched_finds s limit limit [] (asks_from 1 s.kinds) (started_of s) (first_state limit 0) (root_asked s))
