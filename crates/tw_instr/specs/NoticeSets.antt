-- Sets of notices, by which notices they have.
use Rattle.std.specs.Prelude.{Bool, List}
use Rattle.std.specs.BTreeSet.{BTreeSet, contains}
use Rattle.std.specs.List.{list_any}
use Rattle.std.specs.Ordering.{eq_by_cmp}
use Rattle.tw_types.specs.declared.notice.Notice.{Notice}
use Rattle.tw_types.specs.Notices.{notice_cmp}

-- returns whether the list has the notice
abbrev pub is_among : List Notice → Notice → Bool
is_among notices notice = list_any (eq_by_cmp notice_cmp notice) notices

-- returns whether the set has the notice
abbrev pub is_in : BTreeSet Notice → Notice → Bool
is_in keys notice = contains notice_cmp keys notice
