use Rattle.std.proofs.Common.{◌<◌, ◌^◌, arith}
use Rattle.entry.proofs.Returned.{return_refused, return_room, return_done}
use Rattle.entry.proofs.tinoweala_label_text.Goals as goal

pub overflow_cast-result : goal.overflow_cast-result
overflow_cast-result c =
    let room : c.in-Ok.bytes < 2 ^ 63 = omega (arith, return_room _ _ _ _ c.label_text.ensures _ c.in-Ok.is) in
    record { sfits = omega (arith, room) }

pub returns-in-Ok : goal.returns-in-Ok
returns-in-Ok c =
    let room : c.in-Ok.bytes < 2 ^ 63 = omega (arith, return_room _ _ _ _ c.label_text.ensures _ c.in-Ok.is) in
    return_done _ _ _ _ c.label_text.ensures _ room c.in-Ok.is

pub returns-in-Err : goal.returns-in-Err
returns-in-Err c = return_refused _ _ _ _ c.label_text.ensures _ _ _ c.from.ensures c.from-in-Err.ensures (omega arith) c.in-Err.is
