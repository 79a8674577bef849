use Rattle.std.proofs.Common.{◌∙◌, ◌++◌, ◌∷◌, [], List, ℕ, map, string_bytes, ap, sym, rules}
use denote.Ref.{Bor}
use Rattle.std.proofs.lemmas.List.{map-append}
use Rattle.std.proofs.lemmas.Iterator.Consumers.{YieldsList-at, YieldsList-end}
use Rattle.std.proofs.lemmas.Iterator.Splits.{YieldsList-from_str_split}
use Rattle.tw_calls.proofs.arguments.parts_of.Goals as goal

pub loop-part-preserved : goal.loop-part-preserved
loop-part-preserved c =
    let now = λ (part : Bor (List ℕ)). part.now in
    let one = c.in_ok-to_string.field-0 in
    record {
      next = search rules;
      finite = search rules;
      parts =
          ap (map string_bytes) c.in_ok-push.ensures.items
          ∙ (map-append string_bytes c.loop-part.parts.items (one ∷ [])
          ∙ (ap (λ (ys : List (List ℕ)). ys ++ string_bytes one ∷ []) c.loop-part.invariant.parts
          ∙ (ap (λ (y : List ℕ). map now c.loop-part.yielded ++ y ∷ []) c.in_ok-to_string.ensures.ok ∙ sym (map-append now c.loop-part.yielded (c.in-Some.part ∷ [])))));
    }

pub returns : goal.returns
returns c =
    let road = YieldsList-at c.into_iter-part-iterator.ensures.into_iter_gives (YieldsList-from_str_split c.args.ending c.args.text.now c.requires c.split-part-items.ensures.text c.split-part-items.ensures.has_more c.split-part-items.ensures.pattern) in
    let t = YieldsList-end road c.loop-part.yielded _ c.loop-part.yielded_by _ _ c.in-None.is c.next.ensures.steps in
    c.loop-part.invariant.parts ∙ t.0
