use Rattle.std.proofs.Common.{inr, refl}
use Rattle.tw_inputs.specs.InputWords.{EncodesMember}
use Rattle.tw_inputs.proofs.InputReading.{mark_utf8}
use Rattle.tw_inputs.proofs.Members.{broken_off, last_read, missing, no_bytes, none_read, one_read, some_bytes}
use Rattle.tw_inputs.proofs.lists.members.Goals as goal

pub loop-members-init : goal.loop-members-init
loop-members-init g c = record {
  read = rw c.new-members.ensures.items (none_read (EncodesMember g.S.Part.Spells g.V.Part.Spells) c.args.list.now (some_bytes c.args.list.now c.if-is_empty.ensures));
  utf8 = c.requires;
}

pub returns-in_default : goal.returns-in_default
returns-in_default g c =
    missing (EncodesMember g.S.Part.Spells g.V.Part.Spells) c.args.list.now c.loop-members.rest.now c.loop-members.members.items c.loop-members.invariant.read (rw c.in_default.is at c.in_ok-member.ensures)

pub returns-then-is_empty-2 : goal.returns-then-is_empty-2
returns-then-is_empty-2 g c =
    rw c.in_ok-push.ensures.items
    (last_read (EncodesMember g.S.Part.Spells g.V.Part.Spells) c.args.list.now c.loop-members.rest.now c.in-Some.following.now c.loop-members.members.items c.in-Some.member c.loop-members.invariant.read
    (rw c.in-Some.is at c.in_ok-member.ensures) (no_bytes c.in-Some.following.now c.if-is_empty-2.ensures))

pub loop-members-preserved : goal.loop-members-preserved
loop-members-preserved g c = record {
  read =
      rw c.in_ok-push.ensures.items
      (one_read (EncodesMember g.S.Part.Spells g.V.Part.Spells) c.args.list.now c.loop-members.rest.now c.in-Some.following.now c.in-Some-after.others.now c.loop-members.members.items c.in-Some.member
      c.loop-members.invariant.read (rw c.in-Some.is at c.in_ok-member.ensures) c.in-Some-after.ensures);
  utf8 =
      mark_utf8 44 (EncodesMember g.S.Part.Spells g.V.Part.Spells) c.loop-members.rest.now c.in-Some.following.now c.in-Some-after.others.now c.in-Some.member (inr refl) c.loop-members.invariant.utf8
      (rw c.in-Some.is at c.in_ok-member.ensures) c.in-Some-after.ensures;
}

pub returns-in-None : goal.returns-in-None
returns-in-None g c =
    broken_off (EncodesMember g.S.Part.Spells g.V.Part.Spells) c.args.list.now c.loop-members.rest.now c.in-Some.following.now c.loop-members.members.items c.in-Some.member c.loop-members.invariant.read
    (rw c.in-Some.is at c.in_ok-member.ensures) (some_bytes c.in-Some.following.now c.if-is_empty-2.ensures) c.in-None.ensures
