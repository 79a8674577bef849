-- The end of a session whose program is run on lines.
use Rattle.tw_session.proofs.SessionNames.{Appends, Ended, EndsEach, EndsWithReply, Err, IsRejection, Keeps, List, NoMemory, None, Ok, Option, ReadFailed, Reply, Some, Status, Streams, WriteFailed, ap, inl, inr, refl, reply, subst, sym, ℕ, ◌++◌, ◌∙◌, ◌≡◌}
use Rattle.tw_order.specs.declared.order.Source.{Source}
use Rattle.tw_order.specs.declared.runs.EachOrder.{EachOrder}
use Rattle.tw_each.specs.declared.stream.StreamError.TheVariants as stream
use Rattle.tw_each.specs.declared.streamed.Streamed.TheVariants.{Rejected}
use Rattle.tw_source.specs.declared.reply.Reply.{Reply as MadeReply}

appended_after : (old mid new : Option (List ℕ)) (text : List ℕ) → Keeps old mid → Appends mid new text → Appends old new text
appended_after None mid new text p q = tt
appended_after (Some o) None new text p q = absurd p
appended_after (Some o) (Some m) None text p q = absurd q
appended_after (Some o) (Some m) (Some n) text p q = q ∙ ap (λ (l : List ℕ). l ++ text) p

pub rejected : (source : Source) (order : EachOrder) (input : List ℕ) (from left old mid new : Option (List ℕ)) (r : MadeReply) (status : Status)
    → Streams source order input from left old mid (Ok (Rejected r)) → EndsWithReply (λ (made : Reply). made ≡ reply r.text.items r.close) status mid new → EndsEach source order input from left old new status
rejected source order input from left old mid new r (Ended close) (is, unread, kept) (text, same, wrote) =
    inr (text, subst (λ (x : Reply). IsRejection source order input x) (sym same) is, unread, appended_after old mid new text kept wrote)
rejected source order input from left old mid new r NoMemory (is, unread, kept) wrote = (mid, inr (refl, unread, kept), wrote)
rejected source order input from left old mid new r ReadFailed h wrote = absurd wrote
rejected source order input from left old mid new r WriteFailed h wrote = tt

pub unread : (source : Source) (order : EachOrder) (input : List ℕ) (from left old new : Option (List ℕ)) → Streams source order input from left old new (Err stream.Read) → EndsEach source order input from left old new ReadFailed
unread source order input from left old new (inl h) = h
unread source order input from left old new (inr h) = absurd (let never : stream.Read ≡ stream.NoMemory = h.0 in cc)

pub out_of_memory : (source : Source) (order : EachOrder) (input : List ℕ) (from left old mid new : Option (List ℕ)) (status : Status) → Streams source order input from left old mid (Err stream.NoMemory)
    → EndsWithReply (λ (made : Reply). ⊥) status mid new → EndsEach source order input from left old new status
out_of_memory source order input from left old mid new (Ended close) h (text, none, wrote) = absurd none
out_of_memory source order input from left old mid new NoMemory h wrote = (mid, h, wrote)
out_of_memory source order input from left old mid new ReadFailed h wrote = absurd wrote
out_of_memory source order input from left old mid new WriteFailed h wrote = tt
