-- The text is the transcript's, given where there is room for it.
use Rattle.std.proofs.Common.{◌≡◌, ℕ, Bool, true, false, cond, ltb, List, [], length, Ok, Err, refl, sym, subst}
use Rattle.std.proofs.lemmas.Bool.{ltb-true, ltb-false}
use Rattle.refusal.specs.declared.reason.Reason.TheVariants.{BufferLength}
use Rattle.refusal.specs.Refusals.{refusal_at}
use Rattle.machine.specs.Answers.{written}
use Rattle.transcript.specs.Transcripts.{Transcribes}
use Rattle.mizkaule.specs.declared.answer.Failure.TheVariants.{TurnedDown}
use Rattle.mizkaule.specs.Answers.{Verdict}
use Rattle.mizkaule.specs.Replays.{Replayed, printed, no_room}
use Rattle.mizkaule.proofs.replays.replay.Goals as goal

module _ (book old new t : List ℕ) (v : Verdict) (is : Transcribes book t) where
  given : (short : Bool) → ltb (length old) (length t) ≡ short
      → v ≡ cond short (Err (TurnedDown (refusal_at BufferLength 0) (length t))) (Ok (length t)) → new ≡ written (cond short [] t) old
      → Replayed book old new v
  given true e told buffer = no_room t is (ltb-true (length old) (length t) e) told buffer
  given false e told buffer = printed t is (ltb-false (length old) (length t) e) told buffer

pub returns : goal.returns
returns c =
    let t : List ℕ = c.as_bytes.result.now in
    let is = subst (λ (u : List ℕ). Transcribes c.args.book.now u) (sym c.as_bytes.ensures.value) c.in_ok-printed.ensures in
    given c.args.book.now c.args.text.now _ t _ is (ltb (length c.args.text.now) (length t)) refl c.give.ensures.told c.give.ensures.buffer
