-- How many nodes a search opens, and how many units it takes.
use Rattle.std.specs.Prelude.{◌≢◌, ℕ, ◌+◌, ◌*◌, ◌^◌, ◌<◌, ◌≤◌, length}
use Rattle.emp_rows.specs.declared.system.RowSystem.{RowSystem}
use Rattle.emp_search.specs.Search.{Searched, closed, found, wide_at, out_of_units, search_of}

-- a tree whose paths split each pair at most once has fewer nodes
abbrev pub nodes_below : RowSystem → ℕ
nodes_below s = 2 ^ (length s.pairs + 1)

-- a step takes no more units than there are sets of columns
abbrev pub step_units : RowSystem → ℕ
step_units s = 2 ^ (s.base + length s.quantities)

-- a node asks for no more than every quantity and the objective, and takes a unit for itself
abbrev pub node_units : RowSystem → ℕ
node_units s = (length s.quantities + 2) * step_units s

-- fewer than n nodes were opened; of a wide pivot it is the node's number that is below n
abbrev pub OpensBelow : ℕ → Searched → Type 0
OpensBelow n (closed st) = st.nodes < n
OpensBelow n (found f st) = st.nodes < n
OpensBelow n (wide_at k p) = k < n
OpensBelow n out_of_units = Unit {0}

abbrev pub SearchesOpenFew : Type 0
SearchesOpenFew = (s : RowSystem) (limit : ℕ) → OpensBelow (nodes_below s) (search_of s limit)

abbrev pub SearchesEnd : Type 0
SearchesEnd = (s : RowSystem) (limit : ℕ) → (nodes_below s * node_units s) ≤ limit → search_of s limit ≢ out_of_units
