-- Rebuild never reads a slot from its n upward, nor writes one. Assumes nothing.
use Prim.Native.Nat.{ℕ, zero, suc, ◌*◌, ◌≤◌, ◌<◌}
use mathlib.Core.List.{List}
use mathlib.Core.Path.{◌≡◌, refl, fun_ext, ◌∙◌}
use native.Mathlib.Omega.{arith}
use lib.ListN.{length, drop}
use Rattle.rules.specs.Words.{link_words, row_words, version_word, version_at, zero_row, vacant_at}
use Rattle.rules.specs.Runs.{is_front, is_back}
use Rattle.rules.specs.Rebuild.{wrong_byte, rebuild_number, unlinked, Chain, chain_run, chain_slot, chain_slots, closed, relinked, cleared_rows, rebuild_rule}
use Rattle.rules.specs.NeverRead.{AgreeTo, NeverReads}
use Rattle.rules.specs.declared.Header.{Header}
use Rattle.rules.proofs.Choice.{by_pick, by_picks}
use Rattle.rules.proofs.Rebuild.{rebuild_passed}
use Rattle.rules.proofs.Agree.{same_link, same_versions, link_agrees, row_agrees}
use Rattle.rules.proofs.Kept.{LinksKept, link_kept, row_kept, unless_kept}
use Rattle.rules.proofs.NeverRead.{unless_alike}

-- the number
same_bytes : (n : ℕ) (bytes l l' : List ℕ) → AgreeTo (n * link_words) l l' → wrong_byte l n bytes ≡ wrong_byte l' n bytes
unfolding wrong_byte
same_bytes n bytes l l' g = fun_ext (λ i. simp (same_link n l l' g))

same_rebuild : (bytes l l' r r' : List ℕ) → AgreeTo (length bytes * link_words) l l' → length r ≡ length r' →
    rebuild_number l r bytes ≡ rebuild_number l' r' bytes
unfolding rebuild_number
same_rebuild bytes l l' r r' g e = simp (same_bytes _ bytes l l' g, same_link (length bytes) l l' g, g.lengths, e)

-- links become zero
unlinked_agrees : (n k : ℕ) (l l' : List ℕ) → AgreeTo n l l' → AgreeTo n (unlinked k l) (unlinked k l')
unfolding unlinked
unlinked_agrees n zero l l' g = g
unlinked_agrees n (suc k) l l' g =
    let rest = unlinked_agrees n k l l' g in
    search link_agrees

unlinked_kept : (n k : ℕ) (l : List ℕ) → k ≤ n → LinksKept n l (unlinked k l)
unfolding unlinked
unlinked_kept n zero l h = refl
unlinked_kept n (suc k) l h =
    let below : k < n = omega arith in
    simp link_kept (unlinked_kept n k l (omega arith))

-- runs are chained, from links that agree below n and with the same two fronts in mind
record ChainsAgree (n : ℕ) (c c' : Chain) : Type 0 where
  links : AgreeTo (n * link_words) c.links c'.links
  front : c.front ≡ c'.front
  last : c.last ≡ c'.last

chain_run_agrees : (n p f b : ℕ) (l l' : List ℕ) → AgreeTo n l l' → AgreeTo n (chain_run l p f b) (chain_run l' p f b)
unfolding chain_run
chain_run_agrees n p f b l l' g = search link_agrees

chain_slot_agrees : (n i : ℕ) (c c' : Chain) → ChainsAgree n c c' → ChainsAgree n (chain_slot n i c) (chain_slot n i c')
unfolding chain_slot
chain_slot_agrees n i c c' a =
    simp (same_versions n c.links c'.links a.links, a.front, a.last)
    record {
      links =
          by_picks (AgreeTo (n * link_words)) (is_back (version_at c'.links n) n i) _ _ _ _
          (λ _. chain_run_agrees _ _ _ i _ _ a.links)
          (λ _. a.links);
      front = refl;
      last = refl;
    }

chain_slots_agree : (n k : ℕ) (c c' : Chain) → ChainsAgree n c c' → ChainsAgree n (chain_slots n k c) (chain_slots n k c')
unfolding chain_slots
chain_slots_agree n zero c c' a = a
chain_slots_agree n (suc k) c c' a = chain_slot_agrees n k _ _ (chain_slots_agree n k c c' a)

closed_agrees : (n : ℕ) (c c' : Chain) → ChainsAgree n c c' → AgreeTo (n * link_words) (closed c) (closed c')
closed_agrees n c c' a = rw a.last (link_agrees _ _ _ a.links _ _ _)

-- and where both fronts are below n, every write is
record ChainKept (n : ℕ) (l : List ℕ) (c : Chain) : Type 0 where
  links : LinksKept n l c.links
  front : c.front < n
  last : c.last < n

chain_run_kept : (n p f b : ℕ) (l : List ℕ) → p < n → f < n → b < n → LinksKept n l (chain_run l p f b)
unfolding chain_run
chain_run_kept n p f b l h i j = simp link_kept

chain_slot_kept : (m n i : ℕ) (l : List ℕ) (c : Chain) → i < m → ChainKept m l c → ChainKept m l (chain_slot n i c)
unfolding chain_slot
chain_slot_kept m n i l c h k =
    let front = by_pick (λ (f : ℕ). f < m) (is_front (version_at c.links n) n i) i c.front (λ _. h) (λ _. k.front) in
    record {
      links =
          by_pick (LinksKept m l) (is_back (version_at c.links n) n i) _ _
          (λ _. chain_run_kept m _ _ i _ k.last front h ∙ k.links)
          (λ _. k.links);
      front = front;
      last = by_pick (λ (f : ℕ). f < m) (is_back (version_at c.links n) n i) _ c.last (λ _. front) (λ _. k.last);
    }

chain_slots_kept : (m n k : ℕ) (l : List ℕ) (c : Chain) → k ≤ m → ChainKept m l c → ChainKept m l (chain_slots n k c)
unfolding chain_slots
chain_slots_kept m n zero l c h j = j
chain_slots_kept m n (suc k) l c h j = chain_slot_kept m n k l _ (omega arith) (chain_slots_kept m n k l c (omega arith) j)

closed_kept : (n : ℕ) (l : List ℕ) (c : Chain) → 0 < n → ChainKept n l c → LinksKept n l (closed c)
closed_kept n l c h k = link_kept n c.links 0 _ _ h refl ∙ k.links

-- relinking whole
relinked_agrees : (n : ℕ) (l l' : List ℕ) → AgreeTo (n * link_words) l l' →
    AgreeTo (n * link_words) (relinked l n).links (relinked l' n).links
unfolding relinked
relinked_agrees n l l' g =
    closed_agrees n _ _
    (chain_slots_agree _ _ _ _ record { links = unlinked_agrees _ _ l l' g; front = refl; last = refl })

relinked_kept : (n : ℕ) (l : List ℕ) → 0 < n → LinksKept n l (relinked l n).links
unfolding relinked
relinked_kept n l h =
    closed_kept n l _ h
    (chain_slots_kept n _ _ l _ (omega arith) record { links = unlinked_kept n _ l (omega arith); front = h; last = h })

same_header : (n : ℕ) (l l' : List ℕ) → AgreeTo (n * link_words) l l' → (relinked l n).header ≡ (relinked l' n).header
unfolding relinked
same_header n l l' g = simp (same_link n l l' g)

-- rows of vacant slots become zero
cleared_agrees : (n k : ℕ) (l l' r r' : List ℕ) → AgreeTo (n * link_words) l l' → AgreeTo (n * row_words) r r' →
    AgreeTo (n * row_words) (cleared_rows l n k r) (cleared_rows l' n k r')
unfolding cleared_rows vacant_at
cleared_agrees n zero l l' r r' g j = j
cleared_agrees n (suc k) l l' r r' g j =
    let rest = cleared_agrees n k l l' r r' g j in
    rw (same_link n l l' g k version_word refl)
    (by_picks (AgreeTo (n * row_words)) (vacant_at l' n k) _ _ _ _ (λ _. row_agrees _ _ _ rest k zero_row) (λ _. rest))

cleared_kept : (m n k : ℕ) (l r : List ℕ) → k ≤ m → drop (m * row_words) (cleared_rows l n k r) ≡ drop (m * row_words) r
unfolding cleared_rows
cleared_kept m n zero l r h = refl
cleared_kept m n (suc k) l r h =
    let rest = cleared_kept m n k l r (omega arith) in
    by_pick (λ (w : List ℕ). drop (m * row_words) w ≡ drop (m * row_words) r) (vacant_at l n k) _ _
    (λ _. row_kept m _ k zero_row (omega arith) ∙ rest)
    (λ _. rest)

pub rebuild_never_reads : (hd : Header) (bytes : List ℕ) → NeverReads (length bytes) (λ l r. rebuild_rule l r hd bytes)
unfolding rebuild_rule relinked
rebuild_never_reads hd bytes =
    let n = length bytes in
    record {
      alike = λ l l' r r' g.
          unless_alike n l l' r r' hd g _ _ (same_rebuild bytes l l' r r' g.links g.rows.lengths) _ _
          (λ _.
          record {
            answer = refl;
            row = refl;
            header = same_header n l l' g.links;
            tables =
                record {
                  links = relinked_agrees n l l' g.links;
                  rows = cleared_agrees _ _ l l' r r' g.links g.rows;
                };
          });
      kept = λ l r.
          unless_kept n l r hd _ _
          (λ e. record { links = relinked_kept n l (rebuild_passed l r bytes e).sized.some; rows = cleared_kept n _ _ l r (omega arith) });
    }
