use Rattle.std.proofs.Common.{length, refl, arith}
use Rattle.std.proofs.lemmas.Slice.{put_mid-paste}
use Rattle.labels.proofs.Bytes.{copied}
use Rattle.labels.proofs.put.put_bytes.Goals as goal

pub returns : goal.returns
returns c = copied _ _ _ c.requires _ (put_mid-paste _ _ _ _ c.args.bytes.now (length c.args.bytes.now) c.copy_from_slice.ensures.after (omega arith) refl)
