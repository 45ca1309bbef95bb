-- Threads one after the other.
use Rattle.std.proofs.Common.{◌≡◌, ℕ, suc, ◌+◌, List, ◌++◌, codes, sym, ◌∙◌, ap, arith}
use Rattle.std.proofs.lemmas.List.{append-nil, append_assoc}
use Rattle.debug_session.specs.Sessions.{more_threads, thread_digits}

pub no_more_threads : (put whole : List ℕ) (hart count : ℕ) → count ≡ 0 → put ++ more_threads hart count ≡ whole → put ≡ whole
unfolding more_threads
no_more_threads put whole hart count none is = sym (append-nil put) ∙ ap (λ n. put ++ more_threads hart n) (sym none) ∙ is

pub one_thread_more : (put whole : List ℕ) (hart count fewer : ℕ) → count ≡ fewer + 1 → put ++ more_threads hart count ≡ whole →
    put ++ codes "," ++ thread_digits hart ++ more_threads (hart + 1) fewer ≡ whole
unfolding more_threads
one_thread_more put whole hart count fewer more is =
    let next : count ≡ suc fewer = omega (arith, more) in
    append_assoc (put ++ codes ",") (thread_digits hart) (more_threads (hart + 1) fewer)
    ∙ append_assoc put (codes ",") (thread_digits hart ++ more_threads (hart + 1) fewer)
    ∙ ap (λ xs. put ++ xs) (sym (append_assoc (codes ",") (thread_digits hart) (more_threads (hart + 1) fewer)))
    ∙ ap (λ n. put ++ more_threads hart n) (sym next) ∙ is
