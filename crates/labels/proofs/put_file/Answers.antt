use native.Mathlib.Omega.{arith}
use Rattle.labels.proofs.Bytes.{file_banner, file_vertices, file_column, file_lines, file_written}
use Rattle.labels.proofs.put_file.Goals as goal

pub put_bytes-at-requires : goal.put_bytes-at-requires
put_bytes-at-requires c = search file_banner

pub put_number-at-requires : goal.put_number-at-requires
put_number-at-requires c = (omega arith, search file_vertices)

pub put_bytes-at-requires-2 : goal.put_bytes-at-requires-2
put_bytes-at-requires-2 c = search file_column

pub put_labels-requires : goal.put_labels-requires
put_labels-requires c = search (file_lines, c.put_bytes-at-2.ensures)

pub returns : goal.returns
returns c = search file_written
