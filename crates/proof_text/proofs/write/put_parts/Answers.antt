use Rattle.std.proofs.Common.{◌≡◌, ◌∙◌, ◌<◌, length, refl, string_bytes, subst, arith, ◌++◌, ◌∷◌, []}
use Rattle.std.proofs.lemmas.List.{get_or_default}
use Rattle.std.proofs.lemmas.List.Elements.{All-more}
use Rattle.proof_text.specs.Laws.{AreSmall}
use Rattle.proof_text.specs.Lines.{places_part}
use Rattle.proof_text.proofs.Joined.{grown-more, grown-two}
use Rattle.proof_text.proofs.write.put_parts.Goals as goal

pub loop-i-preserved : goal.loop-i-preserved
loop-i-preserved c =
    let state = c.args.state.now in
    let i = c.loop-i.i in
    let places = c.get.result.now in
    let within : i < length state = omega (arith, c.len-i-end.ensures, c.loop-i-test.true) in
    let both : string_bytes c.put_places.new.text ≡ string_bytes c.loop-i.text ++ 32 ∷ places_part places =
    grown-two (string_bytes c.loop-i.text) (string_bytes c.push_str.new.self) (string_bytes c.put_places.new.text) (32 ∷ []) (places_part places) (32 ∷ places_part places) c.in_ok-push_str.ensures.bytes c.in_ok-put_places.ensures.text refl in
    record {
      text = grown-more (λ p. 32 ∷ places_part p) state i places (string_bytes c.args.text.now) (string_bytes c.loop-i.text) (string_bytes c.put_places.new.text) within (c.get.ensures ∙ get_or_default state i [] places within) c.loop-i.invariant.text both;
      small = All-more AreSmall state i [] within c.loop-i.invariant.small (subst AreSmall c.get.ensures c.in_ok-put_places.ensures.small);
    }
