-- The open write of a page while its bytes come.
use Rattle.std.proofs.Common.{◌≡◌, ℕ, ◌+◌, ◌≤◌, List, [], ◌++◌, Option, Some, None, length, inl, inr, refl, sym, ap, ◌∙◌, arith, subst, append_assoc}
use Rattle.std.proofs.lemmas.List.{append-nil, length-append}
use Rattle.blob_source.specs.Faults.{Rose}
use Rattle.std.specs.Prelude.{IfSome, IsSomeAnd}
use Rattle.page_disk.specs.declared.change.Change.{Change}
use Rattle.page_disk.specs.Changes.{OpenWrite, with_more, with_torn}

-- some bytes of the whole were appended, and there is room for the rest
pub record Appended (old new : Option OpenWrite) (told now : Option (List Change)) (came more : List ℕ) (bytes rest : List ℕ) : Type 0 where
  pub front : List ℕ
  pub whole : bytes ≡ front ++ rest
  pub write : new ≡ with_more (length front) old
  pub fits : IsSomeAnd new (λ write. write.came + length rest ≤ write.len)
  pub same : now ≡ told
  pub last : IfSome now (λ _. more ≡ came ++ front)

more_zero : (write : Option OpenWrite) → write ≡ with_more 0 write
more_zero None = refl
more_zero (Some write) = let none : write.came ≡ write.came + 0 = omega arith in ap (λ n. Some (record write { came = n })) none

pub more_more : (n m : ℕ) (write : Option OpenWrite) → with_more m (with_more n write) ≡ with_more (n + m) write
more_more n m None = refl
more_more n m (Some write) = let sum : write.came + n + m ≡ write.came + (n + m) = omega arith in ap (λ k. Some (record write { came = k })) sum

-- the page of a write stays
pub torn_more : (n : ℕ) (write : Option OpenWrite) (told : Option (List Change)) → with_torn (with_more n write) told ≡ with_torn write told
torn_more n None told = refl
torn_more n (Some write) told = refl

none_came : (now : Option (List Change)) (came : List ℕ) → IfSome now (λ _. came ≡ came ++ [])
none_came None came = tt
none_came (Some changes) came = sym (append-nil came)

came_more : (now later : Option (List Change)) (came more last front run : List ℕ) → later ≡ now → IfSome now (λ _. more ≡ came ++ front)
    → IfSome later (λ _. last ≡ more ++ run) → IfSome later (λ _. last ≡ came ++ (front ++ run))
came_more None None came more last front run same one two = tt
came_more None (Some changes) came more last front run same one two = cc
came_more (Some changes) None came more last front run same one two = tt
came_more (Some changes) (Some others) came more last front run same one two = two ∙ ap (λ list. list ++ run) one ∙ append_assoc came front run

fits_more : (n m size : ℕ) (write : Option OpenWrite) → IsSomeAnd write (λ write. write.came + size ≤ write.len) → n + m ≡ size → IsSomeAnd (with_more n write)
    (λ write. write.came + m ≤ write.len)
fits_more n m size None fits sum = fits
fits_more n m size (Some write) fits sum = omega (arith, fits, sum)

-- there is room for a front of what has room
pub fits_less : (n size : ℕ) (write : Option OpenWrite) → n ≤ size → IsSomeAnd write (λ write. write.came + size ≤ write.len)
    → IsSomeAnd write (λ write. write.came + n ≤ write.len)
fits_less n size None less fits = fits
fits_less n size (Some write) less fits = omega (arith, less, fits)

pub appended_none : (write : Option OpenWrite) (told : Option (List Change)) (came bytes : List ℕ)
    → IsSomeAnd write (λ write. write.came + length bytes ≤ write.len) → Appended write write told told came came bytes bytes
appended_none write told came bytes fits = record {
  front = [];
  whole = refl;
  write = more_zero write;
  fits = fits;
  same = refl;
  last = none_came told came;
}

-- one run more
pub appended_run : (old mid new : Option OpenWrite) (told now later : Option (List Change)) (came more last : List ℕ) (bytes rest run after : List ℕ)
    → Appended old mid told now came more bytes rest → rest ≡ run ++ after
    → new ≡ with_more (length run) mid → later ≡ now → IfSome later (λ _. last ≡ more ++ run)
    → Appended old new told later came last bytes after
appended_run old mid new told now later came more last bytes rest run after so cut write same came_so =
    let size : length run + length after ≡ length rest = sym (ap length cut ∙ length-append run after) in
    record {
      front = so.front ++ run;
      whole = so.whole ∙ ap (λ list. so.front ++ list) cut ∙ sym (append_assoc so.front run after);
      write = write ∙ ap (with_more (length run)) so.write ∙ more_more (length so.front) (length run) old ∙ ap (λ n. with_more n old)
          (sym (length-append so.front run));
      fits = rw write (fits_more (length run) (length after) (length rest) mid so.fits size);
      same = same ∙ so.same;
      last = came_more now later came more last so.front run same so.last came_so;
    }

-- all of it
pub record AppendedAll (old new : Option OpenWrite) (told now : Option (List Change)) (came more bytes : List ℕ) : Type 0 where
  pub write : new ≡ with_more (length bytes) old
  pub same : now ≡ told
  pub last : IfSome now (λ _. more ≡ came ++ bytes)

pub appended_all : (old new : Option OpenWrite) (told now : Option (List Change)) (came more bytes rest : List ℕ) → Appended old new told now came more bytes
    rest → rest ≡ [] → AppendedAll old new told now came more bytes
appended_all old new told now came more bytes rest so none =
    let whole : bytes ≡ so.front = so.whole ∙ ap (λ list. so.front ++ list) none ∙ append-nil so.front in
    record {
      write = so.write ∙ ap (λ (list : List ℕ). with_more (length list) old) (sym whole);
      same = so.same;
      last = subst (λ (list : List ℕ). IfSome now (λ _. more ≡ came ++ list)) (sym whole) so.last;
    }

-- a fault of a part is a fault of the whole
pub rose_from : (old mid new : ℕ) → old ≤ mid → Rose mid new → Rose old new
rose_from old mid new later (inl more) = inl (omega (arith, later, more))
rose_from old mid new later (inr most) = inr most

-- so many bytes were appended, and these
pub record Added (old new : Option OpenWrite) (told now : Option (List Change)) (came more : List ℕ) (count : ℕ) (bytes : List ℕ) : Type 0 where
  pub write : new ≡ with_more count old
  pub same : now ≡ told
  pub last : IfSome now (λ _. more ≡ came ++ bytes)

pub added_none : (write : Option OpenWrite) (told : Option (List Change)) (came : List ℕ) → Added write write told told came came 0 []
added_none write told came = record { write = more_zero write; same = refl; last = none_came told came }

pub added_more : (old mid new : Option OpenWrite) (told now later : Option (List Change)) (came more last : List ℕ) (count size : ℕ) (bytes run : List ℕ)
    → Added old mid told now came more count bytes → new ≡ with_more size mid → later ≡ now → IfSome later (λ _. last ≡ more ++ run)
    → Added old new told later came last (count + size) (bytes ++ run)
added_more old mid new told now later came more last count size bytes run so write same came_so = record {
  write = write ∙ ap (with_more size) so.write ∙ more_more count size old;
  same = same ∙ so.same;
  last = came_more now later came more last bytes run same so.last came_so;
}

-- there is room for one piece more
pub room_for : (n m size : ℕ) (write mid : Option OpenWrite) → IsSomeAnd write (λ write. write.came + size ≤ write.len) → mid ≡ with_more n write → n + m ≤ size
    → IsSomeAnd mid (λ write. write.came + m ≤ write.len)
room_for n m size None mid fits is sum = absurd fits
room_for n m size (Some write) mid fits is sum = rw is (omega (arith, fits, sum))
