use Rattle.std.proofs.Common.{ℕ, Ok, sym, arith}
use Rattle.std.proofs.lemmas.Result.{MatchResult-weaker}
use Rattle.cidr_bits.specs.declared.address.Address.{Address}
use Rattle.cidr_bits.specs.Forms.{IsBlockText}
use Rattle.cidr_bits.proofs.Reading.{no_whole, parts_at, parts_block, split_text, no_length}
use Rattle.cidr_bits.proofs.Readings.{block_read, no_block_spelled}
use Rattle.cidr_bits.proofs.read.read_block.Goals as goal

pub returns-in_default : goal.returns-in_default
returns-in_default c =
    let form = MatchResult-weaker c.read_whole.result c.read_whole.ensures (λ b h. h)
    (λ e none first prefix h. no_whole c.args.text.now first prefix h c.in_default.ensures.cases none) in
    record { form = form; value = block_read c.args.text.now c.read_whole.result form }

pub returns-in_default-read_address : goal.returns-in_default-read_address
returns-in_default-read_address c =
    let form : (first : Address) (prefix : ℕ) → IsBlockText c.args.text.now first prefix → ⊥ = λ first prefix h.
    c.in_default-read_address.ensures.form h.address
    (parts_at c.args.text.now first prefix h c.in-Some.front c.in-Some.length c.in-Some.ensures.cases).address in
    record { form = form; value = sym (no_block_spelled c.args.text.now form) }

pub returns-in-Ok-read_length : goal.returns-in-Ok-read_length
returns-in-Ok-read_length c =
    let split = split_text c.args.text.now c.in-Some.front c.in-Some.length c.in-Some.ensures.cases in
    let read = c.in-Ok-read_length.ensures in
    let form = parts_block c.args.text.now _ _ c.in-Ok.address _ c.in-Ok-read_length.prefix _ split c.in-Ok.ensures.form read.0 (omega (arith, read.1, c.bits_of.ensures)) c.block_at.ensures.first c.block_at.ensures.prefix in
    record { form = form; value = block_read c.args.text.now (Ok c.block_at.result) form }

pub returns-in-Err : goal.returns-in-Err
returns-in-Err c =
    let form : (first : Address) (prefix : ℕ) → IsBlockText c.args.text.now first prefix → ⊥ = λ first prefix h.
    let parts = parts_at c.args.text.now first prefix h c.in-Some.front c.in-Some.length c.in-Some.ensures.cases in
    no_length _ _ c.in-Ok.address h.address prefix c.in-Ok.ensures.form parts (λ p small. c.in-Err.ensures p (omega (arith, c.bits_of.ensures))) in
    record { form = form; value = sym (no_block_spelled c.args.text.now form) }
