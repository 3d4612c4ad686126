-- Each call takes the run on with the machine, and the run is safe because the statement holds.
use Rattle.std.proofs.Common.{List, vec_items, sym, ◌∙◌, subst}
use Rattle.std.proofs.lemmas.List.{take_all}
use Rattle.block.specs.declared.setup.Setup.{Setup}
use Rattle.machine.specs.Statement.{Checked}
use Rattle.pair.specs.declared.call.Call.{Call}
use Rattle.pair.specs.Views.{ends}
use Rattle.pair.proofs.Along.{Going, one_turn, ran}
use Rattle.pair.proofs.runner.run.Goals as goal

pub loop-call-preserved : goal.loop-call-preserved
loop-call-preserved g c =
    let i = c.loop-call.invariant in (
      c.call.ensures.host_setup ∙ i.0,
      c.call.ensures.device_setup ∙ i.1,
      λ one same.
          one_turn g.H.SignatureKind.model c.start-pair.result.host.setup c.loop-call.pair.host.setup c.args.buffer.now c.args.calls.now c.loop-call.call-index _ (ends c.loop-call.pair) (ends c.call.new.self) c.call.result c.loop-call.buffer c.call.new.buffer (vec_items c.loop-call.answers) (vec_items c.push.new.self) c.loop-call-test.true c.loop-call.auto.buffer i.0 (i.2 one same)
          (λ outward inward. c.call.ensures.made outward inward one (i.1 ∙ same ∙ sym i.0)) c.in_ok-push.ensures.items,
    )

pub returns : goal.returns
returns g c one same =
    let m = g.H.SignatureKind.model in
    let host = c.start-pair.ensures.host in
    let setups = c.start-pair.ensures.device ∙ same ∙ sym host in
    let checked : Checked c.args.blocks.0.setup = record { watched = c.args.blocks.0.watched; small = c.args.blocks.0.small } in
    let going = subst (λ (cs : List Call). Going m c.start-pair.result.host.setup c.args.buffer.now cs (ends c.loop-call.pair) (vec_items c.loop-call.answers) c.loop-call.buffer) (take_all c.loop-call.call-index c.args.calls.now c.loop-call-test.false) (c.loop-call.invariant.2 one setups) in
    ran m g.met.H.SignatureKind.lawful c.args.blocks.0.setup checked _ _ (ends c.loop-call.pair) _ _ (subst (λ (t : Setup). Going m t c.args.buffer.now c.args.calls.now (ends c.loop-call.pair) (vec_items c.loop-call.answers) c.loop-call.buffer) host going)
