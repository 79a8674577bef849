-- All goals of a text, in the order of its lines.
use Rattle.tw_asm.proofs.AsmNames.{AtStart, Code, Drafted, Head, HeadRead, Instr, Label, LinesRead, List, MayFollow, None, OfVersion, Option, Place, Placed, Progress, Read, Registers, Section, Some, Statement, Version, VersionRead, Within, [], ap, append-nil, append_assoc, arith, drafts_at, ended, flat_map, flat_map-append, labels_at, length, length-append, line_step, progress_from, refl, situation_of, step, suc, sym, ℕ, ◌++◌, ◌+◌, ◌∙◌, ◌∷◌, ◌≡◌}
use Rattle.tw_asm.specs.reading.Goals.{Goal, goals_in, section_goals}
use Rattle.tw_asm.proofs.Stages.{body_head, body_start, head_body, head_start, progress, start_body, start_head, version_body, version_head, version_start}

-- ---- labels and goals line by line

-- returns the labels from a statement on; `same` are the later ones if the place is the same after it, `next` if it is the next one
abbrev pub ahead_by : Statement → ℕ → List Placed → List Placed → List Placed
ahead_by (OfVersion version) place same next = same
ahead_by (Head kind params) place same next = []
ahead_by (Registers registers) place same next = same
ahead_by (Label name) place same next = record { name = name; place = place } ∷ same
ahead_by (Code i) place same next = next

-- returns the labels of these lines, up to the next head, from a place on
abbrev pub ahead : ℕ → List (Option Read) → List Placed
ahead place [] = []
ahead place (None ∷ others) = ahead place others
ahead place (Some read ∷ others) = ahead_by read.statement place (ahead place others) (ahead (place + 1) others)

abbrev pub labels_after : Statement → ℕ → List Placed → List Placed
labels_after (OfVersion version) place labels = labels
labels_after (Head kind params) place labels = []
labels_after (Registers registers) place labels = labels
labels_after (Label name) place labels = labels ++ (record { name = name; place = place } ∷ [])
labels_after (Code i) place labels = labels

abbrev pub place_after : Statement → ℕ → ℕ
place_after (OfVersion version) place = place
place_after (Head kind params) place = 0
place_after (Registers registers) place = place
place_after (Label name) place = place
place_after (Code i) place = place + 1

abbrev pub goal_here : Statement → Option (List ℕ) → ℕ → List Placed → ℕ → List Goal
goal_here (OfVersion version) goal number labels place = []
goal_here (Head kind params) goal number labels place = []
goal_here (Registers registers) goal number labels place = []
goal_here (Label name) goal number labels place = []
goal_here (Code i) goal number labels place = record { labels = labels; place = place; draft = record { instr = i; goal = goal; number = number } } ∷ []

-- returns the goals of lines, the first with this number and at this place, after these labels
abbrev pub goals_from : ℕ → List Placed → ℕ → List (Option Read) → List Goal
goals_from number labels place [] = []
goals_from number labels place (None ∷ others) = goals_from (number + 1) labels place others
goals_from number labels place (Some read ∷ others) =
    goal_here read.statement read.goal number (labels ++ ahead place (Some read ∷ others)) place
    ++ goals_from (number + 1) (labels_after read.statement place labels) (place_after read.statement place) others

-- ---- they are the goals of the sections

goals_more : (labels : List Placed) (place : ℕ) (drafts : List Drafted) (d : Drafted) → goals_in labels place (drafts ++ (d ∷ [])) ≡ goals_in labels place drafts ++ (record { labels = labels; place = place + length drafts; draft = d } ∷ [])
goals_more labels place [] d =
    let e : place ≡ place + 0 = omega arith in
    ap (λ (k : ℕ). record { labels = labels; place = k; draft = d } ∷ []) e
goals_more labels place (x ∷ drafts) d =
    let e : (place + 1) + length drafts ≡ place + suc (length drafts) = omega arith in
    ap (λ (gs : List Goal). record { labels = labels; place = place; draft = x } ∷ gs) (goals_more labels (place + 1) drafts d)
    ∙ ap (λ (k : ℕ). record { labels = labels; place = place; draft = x } ∷ (goals_in labels (place + 1) drafts ++ (record { labels = labels; place = k; draft = d } ∷ []))) e

-- returns the goals of the last section so far, which has these labels after it
abbrev open_goals : Place → List Placed → List Goal
open_goals place labels = goals_in (labels_at place ++ labels) 0 (drafts_at place)

ended_goals : (sections : List Section) (place : Place) → flat_map section_goals (ended sections place) ≡ flat_map section_goals sections ++ open_goals place []
ended_goals sections VersionRead = sym (append-nil (flat_map section_goals sections))
ended_goals sections AtStart = sym (append-nil (flat_map section_goals sections))
ended_goals sections (HeadRead kind params) = sym (append-nil (flat_map section_goals sections))
ended_goals sections (Within section) =
    flat_map-append section_goals sections (section ∷ [])
    ∙ ap (λ (gs : List Goal). flat_map section_goals sections ++ gs) (append-nil (section_goals section) ∙ ap (λ (ls : List Placed). goals_in ls 0 section.drafts) (sym (append-nil section.labels)))

-- returns the goals when these lines are read
abbrev pub all_goals : Progress → List Goal
all_goals p = flat_map section_goals (ended p.sections p.place)

abbrev pub goals_by : ℕ → Progress → List (Option Read) → List Goal
goals_by number p reads = flat_map section_goals p.sections ++ (open_goals p.place (ahead (length (drafts_at p.place)) reads) ++ goals_from number (labels_at p.place) (length (drafts_at p.place)) reads)

-- reading one line doesn't change all goals
goals_step : (number : ℕ) (statement : Statement) (goal : Option (List ℕ)) (version : Version) (sections : List Section) (head_line : ℕ) (place : Place) (others : List (Option Read)) → MayFollow statement (situation_of (progress version sections head_line place))
    → goals_by (number + 1) (step number statement goal (progress version sections head_line place)) others ≡ goals_by number (progress version sections head_line place) (Some (record { statement = statement; goal = goal }) ∷ others)
goals_step number (OfVersion n) goal version sections head_line AtStart others m = refl
goals_step number (OfVersion n) goal version sections head_line VersionRead others m = version_start m
goals_step number (OfVersion n) goal version sections head_line (HeadRead kind params) others m = head_start m
goals_step number (OfVersion n) goal version sections head_line (Within section) others m = body_start m
goals_step number (Head kind params) goal version sections head_line place others m =
    ap (λ (gs : List Goal). gs ++ goals_from (number + 1) [] 0 others) (ended_goals sections place)
    ∙ append_assoc (flat_map section_goals sections) (open_goals place []) (goals_from (number + 1) [] 0 others)
goals_step number (Registers registers) goal version sections head_line AtStart others m = start_head m
goals_step number (Registers registers) goal version sections head_line VersionRead others m = version_head m
goals_step number (Registers registers) goal version sections head_line (HeadRead kind params) others m = refl
goals_step number (Registers registers) goal version sections head_line (Within section) others m = body_head m
goals_step number (Label name) goal version sections head_line AtStart others m = start_body m.0
goals_step number (Label name) goal version sections head_line VersionRead others m = version_body m.0
goals_step number (Label name) goal version sections head_line (HeadRead kind params) others m = head_body m.0
goals_step number (Label name) goal version sections head_line (Within section) others m =
    let k = length section.drafts in
    ap (λ (ls : List Placed). flat_map section_goals sections ++ (goals_in ls 0 section.drafts ++ goals_from (number + 1) (section.labels ++ (record { name = name; place = length section.drafts } ∷ [])) (length section.drafts) others))
    (append_assoc section.labels (record { name = name; place = length section.drafts } ∷ []) (ahead (length section.drafts) others))
goals_step number (Code i) goal version sections head_line AtStart others m = start_body m.0
goals_step number (Code i) goal version sections head_line VersionRead others m = version_body m.0
goals_step number (Code i) goal version sections head_line (HeadRead kind params) others m = head_body m.0
goals_step number (Code i) goal version sections head_line (Within section) others m =
    code_goals number i goal sections section others
  where
    code_goals : (number : ℕ) (i : Instr) (goal : Option (List ℕ)) (sections : List Section) (section : Section) (others : List (Option Read))
        → flat_map section_goals sections ++ (goals_in (section.labels ++ ahead (length (section.drafts ++ (record { instr = i; goal = goal; number = number } ∷ []))) others) 0 (section.drafts ++ (record { instr = i; goal = goal; number = number } ∷ [])) ++ goals_from (number + 1) section.labels (length (section.drafts ++ (record { instr = i; goal = goal; number = number } ∷ []))) others)
        ≡ flat_map section_goals sections ++ (goals_in (section.labels ++ ahead (length section.drafts + 1) others) 0 section.drafts ++ ((record { labels = section.labels ++ ahead (length section.drafts + 1) others; place = length section.drafts; draft = record { instr = i; goal = goal; number = number } } ∷ []) ++ goals_from (number + 1) section.labels (length section.drafts + 1) others))
    code_goals number i goal sections section others =
        let draft : Drafted = record { instr = i; goal = goal; number = number } in
        let n : length (section.drafts ++ (draft ∷ [])) ≡ length section.drafts + 1 = omega (arith, length-append section.drafts (draft ∷ [])) in
        let z : 0 + length section.drafts ≡ length section.drafts = omega arith in
        let ls = section.labels ++ ahead (length section.drafts + 1) others in
        let rest = goals_from (number + 1) section.labels (length section.drafts + 1) others in
        ap (λ (k : ℕ). flat_map section_goals sections ++ (goals_in (section.labels ++ ahead k others) 0 (section.drafts ++ (draft ∷ [])) ++ goals_from (number + 1) section.labels k others)) n
        ∙ ap (λ (gs : List Goal). flat_map section_goals sections ++ (gs ++ rest)) (goals_more ls 0 section.drafts draft)
        ∙ ap (λ (k : ℕ). flat_map section_goals sections ++ ((goals_in ls 0 section.drafts ++ (record { labels = ls; place = k; draft = draft } ∷ [])) ++ rest)) z
        ∙ ap (λ (gs : List Goal). flat_map section_goals sections ++ gs) (append_assoc (goals_in ls 0 section.drafts) (record { labels = ls; place = length section.drafts; draft = draft } ∷ []) rest)

pub goals_are : (number : ℕ) (p : Progress) (ls : List (List ℕ)) (reads : List (Option Read)) → LinesRead number p ls reads → all_goals (progress_from number p reads) ≡ goals_by number p reads
goals_are number p [] [] r = ended_goals p.sections p.place ∙ ap (λ (gs : List Goal). flat_map section_goals p.sections ++ gs) (sym (append-nil (open_goals p.place [])))
goals_are number p [] (read ∷ others) r = absurd r
goals_are number p (line ∷ after) [] r = absurd r
goals_are number p (line ∷ after) (None ∷ others) r = goals_are (number + 1) p after others r.1
goals_are number p (line ∷ after) (Some read ∷ others) r =
    goals_are (number + 1) (line_step number (Some read) p) after others r.1 ∙ goals_step number read.statement read.goal p.version p.sections p.head_line p.place others r.0.1
