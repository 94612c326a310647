-- What is kept in memory: files by name, and an output.
use Rattle.std.specs.Prelude.{ℕ, List}
use Rattle.std.specs.Option.{option_map}
use Rattle.std.specs.BTreeMap.{get_by_text}
use Rattle.emp_desk.specs.Desk.{Contents}
use Rattle.emp_desk.specs.Files.{Kept, bytes_of}
use Rattle.emp_desk.specs.declared.memory.Memory.{Memory}

-- the files that are kept, by name
abbrev pub files_of : Memory → Kept
files_of memory name = option_map (λ bytes. bytes.items) (get_by_text memory.files name)

-- all bytes said so far
abbrev pub output_of : Memory → List ℕ
output_of memory = memory.said.items

abbrev pub contents_of : Memory → Contents
contents_of memory = record { holds = bytes_of (files_of memory); said = output_of memory }
