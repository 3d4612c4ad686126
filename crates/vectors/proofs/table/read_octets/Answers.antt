-- A text is two fields of octets, if both are.
use Rattle.std.proofs.Common.{rules, Some, vec_items}
use Rattle.vectors.specs.Hex.{hex_text}
use Rattle.vectors.proofs.Cuts.{both_fields, hex_lacks, same_cut}
use Rattle.vectors.proofs.table.read_octets.Goals as goal

pub returns-in_default-2 : goal.returns-in_default-2
returns-in_default-2 c os answer e =
    let both = c.in-Some.ensures in
    let same = same_cut c.args.text.now c.in-Some.field.now c.in-Some.rest.now both.0 both.1 (hex_text os) (hex_text answer) e (hex_lacks _) in
    search rules

pub returns : goal.returns
returns c =
    let cut = c.in-Some.ensures in
    rw c.zip.ensures (both_fields vec_items _ c.in-Some.field.now c.in-Some.rest.now (Some c.in-Some-2.octets) c.in_ok-answer.answer cut.0 cut.1 (rw c.in-Some-2.is at (rw c.as_bytes.ensures.value at c.in_ok-octets.ensures)) (rw c.as_bytes-2.ensures.value at c.in_ok-answer.ensures))
