-- Lists with a common prefix.
use Rattle.tw_frame.proofs.Names.{List, ap, arith, get_or, get_or-take, length, reverse, reverse-reverse, same_Some, slice_get-get_or, sym, take, ℕ, ◌<◌, ◌∙◌, ◌≡◌, ◌≤◌}

pub items_at : {A : Type 0} (xs ys : List A) (d i : ℕ) (x y : A) → i < d → d ≤ length ys → reverse (take d xs) ≡ reverse (take d ys) → x ≡ get_or xs i x → y ≡ get_or ys i y → x ≡ y
items_at {A} xs ys d i x y low long e at_x at_y =
    let same : take d xs ≡ take d ys = sym (reverse-reverse (take d xs)) ∙ ap reverse e ∙ reverse-reverse (take d ys) in
    let there : i < length ys = omega arith in
    let either : get_or ys i x ≡ get_or ys i y = same_Some (get_or ys i x) (get_or ys i y) (sym (slice_get-get_or ys i x there) ∙ slice_get-get_or ys i y there) in
    at_x ∙ sym (get_or-take d xs i x low) ∙ ap (λ (l : List A). get_or l i x) same ∙ get_or-take d ys i x low ∙ either ∙ sym at_y
