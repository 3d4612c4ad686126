-- The two digits of one octet more.
use Rattle.std.proofs.Common.{◌≡◌, ℕ, ◌^◌, ◌-◌, ◌<◌, ◌+◌, ◌/◌, ◌%◌, List, [], ◌∷◌, ◌++◌, false, Some, get_or, length, take, arith, ap, sym, refl, ◌∙◌}
use Rattle.std.specs.Char.{digit_char}
use Rattle.std.specs.Fmt.{digits, format_spec, padded_integral, styled_digits_output}
use Rattle.std.specs.Option.{option_map}
use Rattle.std.proofs.lemmas.Fmt.{hex_byte}
use Rattle.std.proofs.lemmas.Grind.{put_two}
use Rattle.std.proofs.lemmas.List.{flat_map_more, take_more}
use Rattle.vectors.specs.Hex.{hex_text, pair}
use Rattle.vectors.proofs.HexDisplay.fmt.Goals as goal

two : (o : ℕ) → o < 256 → padded_integral (format_spec 32 0 4 2 (2 ^ 64 - 1)) false [] (digits 16 false o) ≡ pair o
two o h =
    let high : o / 16 % 16 ≡ o / 16 = omega arith in
    hex_byte false o h ∙ ap (λ (d : ℕ). digit_char d ∷ digit_char (o % 16) ∷ []) (sym high)

more : (os : List ℕ) (i : ℕ) → i < length os → hex_text (take i os) ++ pair (get_or os i 0) ≡ hex_text (take (i + 1) os)
more os i h = flat_map_more pair [] (take i os) (get_or os i 0) ∙ sym (ap hex_text (take_more os i 0 h))

pub loop-o-preserved : goal.loop-o-preserved
loop-o-preserved g c = λ plain.
    let os : List ℕ = c.args.self.now.0.now in
    let i : ℕ = c.loop-o.o-index in
    let small : get_or os i 0 < 256 = omega arith in
    let so_far = c.loop-o.invariant plain in
    let said : styled_digits_output c.in_radix.result c.laid_out.result ≡ Some (pair (get_or os i 0)) =
    ap (λ s. styled_digits_output c.in_radix.result s) c.laid_out.ensures
    ∙ ap (λ x. option_map (padded_integral (format_spec 32 0 4 2 (2 ^ 64 - 1)) false []) x) c.in_radix.ensures
    ∙ ap (λ (x : List ℕ). Some x) (two (get_or os i 0) small) in
    let writes = rw said at c.in_ok-write.ensures.writes in
    put_two _ c.args.f.now c.loop-o.f c.write.new.self (hex_text (take i os)) (pair (get_or os i 0)) (hex_text (take (i + 1) os)) so_far (writes so_far.plain refl) (more os i (omega arith))
