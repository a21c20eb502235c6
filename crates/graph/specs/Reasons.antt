-- Each refusal has a number; what a call says as a number: 0 where it does not refuse.
use Rattle.std.specs.Prelude.{ℕ, Result, Ok, Err}
use Rattle.graph.specs.Limits.{too_many_vertices, uneven_columns, too_many_edges, end_outside, wrong_length, memory_short, list_short, unknown_choice, vertex_outside, wrong_labels, no_path, room_short, first_line_faulty, size_line_faulty, entry_faulty, input_too_long, uneven_kinds, kind_outside}
use Rattle.graph.specs.declared.refusal.Refusal.{Refusal}
use Rattle.graph.specs.declared.refusal.Refusal.TheVariants.{TooManyVertices, UnevenColumns, TooManyEdges, EndOutside, WrongLength, MemoryShort, ListShort, UnknownChoice, VertexOutside, WrongLabels, NoPath, RoomShort, FirstLineFaulty, SizeLineFaulty, EntryFaulty, InputTooLong, UnevenKinds, KindOutside}

abbrev pub number_of : Refusal → ℕ
number_of TooManyVertices = too_many_vertices
number_of UnevenColumns = uneven_columns
number_of TooManyEdges = too_many_edges
number_of EndOutside = end_outside
number_of WrongLength = wrong_length
number_of MemoryShort = memory_short
number_of ListShort = list_short
number_of UnknownChoice = unknown_choice
number_of VertexOutside = vertex_outside
number_of WrongLabels = wrong_labels
number_of NoPath = no_path
number_of RoomShort = room_short
number_of FirstLineFaulty = first_line_faulty
number_of SizeLineFaulty = size_line_faulty
number_of EntryFaulty = entry_faulty
number_of InputTooLong = input_too_long
number_of UnevenKinds = uneven_kinds
number_of KindOutside = kind_outside

-- the number by which a call refuses, or 0
abbrev pub said : {A : Type 0} → Result A Refusal → ℕ
said (Ok a) = 0
said (Err r) = number_of r
