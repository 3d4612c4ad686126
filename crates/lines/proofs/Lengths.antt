-- No line is long, since no number has more than 64 digits.
use Rattle.std.proofs.Common.{◌≡◌, ℕ, zero, suc, ◌+◌, ◌/◌, ◌%◌, ◌≤◌, false, eqb, List, [], ◌∷◌, ◌++◌, length, codes, decimal, refl, subst, arith, length-append}
use Rattle.std.specs.Fmt.{digit_glyph, digits_onto, digits}
use Rattle.std.proofs.lemmas.Bool.{cond_both}
use Rattle.refusal.specs.Reasons.{number_of}
use Rattle.book.specs.declared.kind.Kind.{Kind}
use Rattle.book.specs.declared.kind.Kind.TheVariants as kind
use Rattle.book.specs.Kinds.{word_of}
use Rattle.machine.specs.declared.outcome.Outcome.{Outcome}
use Rattle.machine.specs.declared.outcome.Outcome.TheVariants as outcome
use Rattle.machine.specs.declared.phase.HostPhase.{HostPhase}
use Rattle.machine.specs.declared.phase.HostPhase.TheVariants as hostPhase
use Rattle.machine.specs.declared.phase.DevicePhase.{DevicePhase}
use Rattle.machine.specs.declared.phase.DevicePhase.TheVariants as devicePhase
use Rattle.machine.specs.Words.{outcome_name}
use Rattle.pair.specs.declared.pair.seen.Seen.{Seen}
use Rattle.lines.specs.declared.line.Line.{Line}
use Rattle.lines.specs.declared.line.Line.TheVariants.{Done, TurnedDown, Ended, Refused}
use Rattle.pair.specs.Seeing.{host_phase_letter, device_phase_letter, reading_letter, saw}
use Rattle.lines.specs.Lines.{said, Short}

spelled_few : (k n : ℕ) (acc : List ℕ) → length (digits_onto k 10 false n acc) ≤ k + length acc
spelled_few zero n acc = omega arith
spelled_few (suc k) n acc =
    let more : List ℕ = digit_glyph false (n % 10) ∷ acc in
    cond_both (eqb (n / 10) 0) more (digits_onto k 10 false (n / 10) more) (λ (xs : List ℕ). length xs ≤ suc k + length acc) (λ _. omega arith) (λ _. omega (arith, spelled_few k (n / 10) more))

pub begun : (n : ℕ) → digits_onto 64 10 false n [] ≡ decimal n
unfolding digits
begun n = refl

pub few_digits : (n : ℕ) → length (decimal n) ≤ 64
few_digits n = subst (λ (xs : List ℕ). length xs ≤ 64) (begun n) (omega (arith, spelled_few 64 n []))

-- a piece of at most n octets
record Few (n : ℕ) (piece : List ℕ) : Type 0 where
  most : length piece ≤ n

both : {m n : ℕ} {a b : List ℕ} → Few m a → Few n b → Few (m + n) (a ++ b)
both {a = a} {b = b} p q = record { most = omega (arith, p.most, q.most, length-append a b) }

number : (n : ℕ) → Few 64 (decimal n)
number n = record { most = few_digits n }

space : Few 1 (codes " ")
space = record { most = omega arith }

word : (k : Kind) → Few 12 (word_of k)
word kind.Block = record { most = omega arith }
word kind.HostOffer = record { most = omega arith }
word kind.ToDevice = record { most = omega arith }
word kind.DeviceOffer = record { most = omega arith }
word kind.ToHost = record { most = omega arith }
word kind.HostTicks = record { most = omega arith }
word kind.DeviceTicks = record { most = omega arith }
word kind.Button = record { most = omega arith }

name : (o : Outcome) → Few 9 (outcome_name o)
name outcome.Fresh = record { most = omega arith }
name outcome.Repeat = record { most = omega arith }
name outcome.Waiting = record { most = omega arith }
name outcome.Ignored = record { most = omega arith }
name outcome.Fault = record { most = omega arith }
name outcome.Restart = record { most = omega arith }
name outcome.Quiet = record { most = omega arith }
name outcome.Taken = record { most = omega arith }
name outcome.Process = record { most = omega arith }
name outcome.FailSafe = record { most = omega arith }

reading : (o : Outcome) → Few 1 (reading_letter o)
reading outcome.Fresh = record { most = omega arith }
reading outcome.Repeat = record { most = omega arith }
reading outcome.Waiting = record { most = omega arith }
reading outcome.Ignored = record { most = omega arith }
reading outcome.Fault = record { most = omega arith }
reading outcome.Restart = record { most = omega arith }
reading outcome.Quiet = record { most = omega arith }
reading outcome.Taken = record { most = omega arith }
reading outcome.Process = record { most = omega arith }
reading outcome.FailSafe = record { most = omega arith }

host_letter : (p : HostPhase) → Few 1 (host_phase_letter p)
host_letter hostPhase.Restart = record { most = omega arith }
host_letter hostPhase.Run = record { most = omega arith }

device_letter : (p : DevicePhase) → Few 1 (device_phase_letter p)
device_letter devicePhase.Waiting = record { most = omega arith }
device_letter devicePhase.Run = record { most = omega arith }

seen : (x : Seen) → Few 134 (saw x)
seen x =
    both (host_letter x.host_phase) (both (number x.host_number) (both space (both (device_letter x.device_phase) (both (number x.device_number) (both space (both (reading x.host_reads) (reading x.device_reads)))))))

figures : {n : ℕ} {first : List ℕ} (a b : ℕ) → Few n first → Few (n + 129) (first ++ (decimal a ++ (codes " " ++ decimal b)))
figures a b first = both first (both (number a) (both space (number b)))

said_few : (x : Line) → length (said x) ≤ 255
said_few (Done place k o x) =
    let f : Few 222 (said (Done place k o x)) = both (number place) (both space (both (word k) (both space (both (name o) (both space (seen x)))))) in
    omega (arith, f.most)
said_few (TurnedDown place k reason octet) =
    let middle : Few 9 (codes " refused ") = record { most = omega arith } in
    let f : Few 215 (said (TurnedDown place k reason octet)) = both (number place) (both space (both (word k) (figures (number_of reason) octet middle))) in
    omega (arith, f.most)
said_few (Ended size records) =
    let first : Few 4 (codes "end ") = record { most = omega arith } in
    omega (arith, (figures size records first).most)
said_few (Refused e) =
    let first : Few 8 (codes "refused ") = record { most = omega arith } in
    omega (arith, (figures (number_of e.reason) e.place first).most)

pub row_few : Short
row_few x = omega (arith, length-append (said x) (10 ∷ []), said_few x)
