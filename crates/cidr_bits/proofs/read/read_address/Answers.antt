use Rattle.std.proofs.Common.{sym}
use Rattle.std.specs.Net.Addr.{ipv4_octets, ipv6_segments}
use Rattle.cidr_bits.specs.declared.address.Address.TheVariants.{V4, V6}
use Rattle.cidr_bits.specs.Forms.{IsAddressText}
use Rattle.cidr_bits.proofs.Reading.{no_address}
use Rattle.cidr_bits.proofs.Readings.{address_forth, no_address_of}
use Rattle.cidr_bits.proofs.read.read_address.Goals as goal

pub returns-in-Ok-V4 : goal.returns-in-Ok-V4
returns-in-Ok-V4 c =
    let spelled = rw c.in-Ok-V4.field-0-is at c.in-Ok-V4.ensures.value in
    let form : IsAddressText c.args.text.now (V4 c.number_of_octets.result) = (ipv4_octets c.in-Ok-V4.address, spelled, c.number_of_octets.ensures) in
    record { form = form; value = sym (address_forth c.args.text.now (V4 c.number_of_octets.result) form) }

pub returns-in-Ok-V6 : goal.returns-in-Ok-V6
returns-in-Ok-V6 c =
    let spelled = rw c.in-Ok-V6.field-0-is at c.in-Ok-V6.ensures.value in
    let form : IsAddressText c.args.text.now (V6 c.number_of_groups.result) = (ipv6_segments c.in-Ok-V6.address, spelled, c.number_of_groups.ensures) in
    record { form = form; value = sym (address_forth c.args.text.now (V6 c.number_of_groups.result) form) }

pub returns-in-Err : goal.returns-in-Err
returns-in-Err c =
    let none = no_address c.args.text.now c.in-Err.ensures.value in
    record { form = none; value = sym (no_address_of c.args.text.now none) }
