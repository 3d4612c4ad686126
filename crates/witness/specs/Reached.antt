-- What a list of calls shows: an end hands out process values of a certain age.
use Rattle.std.specs.Prelude.{◌≡◌, ℕ, ◌+◌, Bool, true, false, cond, ◌&&◌, List, [], ◌∷◌, ◌++◌, Ok}
use Rattle.std.specs.Str.{bytes_eq}
use Rattle.signature.specs.Kind.{Model}
use Rattle.machine.specs.declared.outcome.Outcome.TheVariants.{Fresh, Process}
use Rattle.block.specs.declared.setup.Setup.{Setup}
use Rattle.machine.specs.Calls.{Call, host_offer, to_device, device_offer, to_host, host_ticks, device_ticks, button, press, host_read, device_read, Event, happens, after, history}
use Rattle.machine.specs.Events.{End, host, device, other, Reads, Offers, ticks_given}

abbrev pub is_host : End → Bool
is_host host = true
is_host device = false

-- the call offers these values at the end
abbrev pub offers_them : End → List ℕ → Call → Bool
offers_them e values (host_offer v wish room) = is_host e && bytes_eq v values
offers_them e values (to_device f) = false
offers_them e values (device_offer v flags room) = is_host (other e) && bytes_eq v values
offers_them e values (to_host f) = false
offers_them e values (host_ticks n) = false
offers_them e values (device_ticks n) = false
offers_them e values (button reading) = false
offers_them e values (press given) = false
offers_them e values (host_read room) = false
offers_them e values (device_read room) = false

abbrev pub times_offered : End → List ℕ → List Event → ℕ
times_offered e values [] = 0
times_offered e values (ev ∷ events) = cond (offers_them e values ev.call) 1 0 + times_offered e values events

-- Somewhere in the calls the reader hands out these process values. They were offered once, as a fresh offer, and by
-- the ticks given to the reader since then they are this old.
pub record HandsOutAged (m : Model) (s : Setup) (reader : End) (values : List ℕ) (old : ℕ) (calls : List Call) : Type 0 where
  pub newer : List Call
  pub call : Call
  pub older : List Call
  pub split : calls ≡ newer ++ (call ∷ older)
  pub reads : Reads reader call
  pub process : (happens m s (after m s older) call).answer ≡ Ok Process
  pub octets : (happens m s (after m s older) call).octets ≡ values
  pub since : List Event
  pub offer : Event
  pub earlier : List Event
  pub past : history m s older ≡ since ++ (offer ∷ earlier)
  pub offers : Offers (other reader) values offer.call
  pub fresh : offer.answer ≡ Ok Fresh
  pub once : times_offered (other reader) values (history m s older) ≡ 1
  pub age : ticks_given reader since ≡ old
