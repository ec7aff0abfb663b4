use Rattle.std.proofs.Common.{◌≡◌, ◌++◌, take, ap, sym, ◌∙◌, arith, refl, Some}
use Rattle.av_store.specs.Rows.{number_named}
use Rattle.av_guard.specs.Naming.{letters, name_of}
use Rattle.av_guard.proofs.NameLemmas.{named, passed, stem_cut, stem_whole}
use Rattle.av_guard.proofs.place.place_of.Goals as goal

pub names-init : goal.names-init
names-init c = record {
  place = refl;
  stem = stem_whole _ _ _ c.stem_of-name.ensures.name;
  len = omega (arith, c.stem_of-name.ensures.len);
}

pub names-preserved : goal.names-preserved
names-preserved c =
    let v = c.args.volume.now in
    let content = c.args.content.now in
    let i = c.names.number in
    let own : c.push_letters.new.name.items ≡ name_of c.args.key content i = named _ _ _ c.args.key content i c.names.invariant.stem c.truncate.ensures.items c.push_letters.ensures.items in
    let found : number_named (name_of c.args.key content i) v.streams ≡ Some c.in-Some.stream = ap (λ n. number_named n v.streams) (sym (c.as_slice.ensures.value ∙ own)) ∙ sym c.find.ensures ∙ c.in-Some.is in
    let len = c.push_letters.ensures.len in
    let cut = c.truncate.ensures.len in
    record {
      place = passed c.args.key v content i c.in-Some.stream _ c.names.invariant.place (omega (arith, c.names-test.true)) found (sym c.has_bytes.ensures ∙ c.if-has_bytes.false);
      stem =
          ap (λ xs. take 32 xs) (c.push_letters.ensures.items ∙ ap (λ xs. xs ++ letters 16 i) c.truncate.ensures.items)
          ∙ stem_cut c.names.name.items _ c.names.invariant.stem (omega (arith, c.names.invariant.len)) (letters 16 i);
      len = omega (arith, len, cut, c.names.invariant.len);
    }
