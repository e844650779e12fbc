mod ShortLaws
